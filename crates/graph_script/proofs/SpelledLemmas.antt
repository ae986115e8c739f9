-- THE WORDS of a command that was read are those that it was read from, also after more nodes.
use Rattle.std.proofs.Common.{◌≡◌, ℕ, ◌+◌, ◌<◌, ◌≤◌, Bool, true, false, cond, List, [], ◌∷◌, ◌++◌, length, get_or, refl, sym, ap, ◌∙◌, subst, arith}
use Rattle.std.proofs.Common.{decimal, codes, length-append, append-nil}
use Rattle.std.specs.Prelude.{Option, Some, None, ok_or, Ok, nat_lt, nat_le, pos, bytes_eq}
use Rattle.std.proofs.lemmas.List.{get_or_append_left, get_or-append-add}
use Rattle.std.proofs.lemmas.Slice.Eq.{bytes_eq-Decides}
use Rattle.pw_graph.specs.declared.ids.PortId.{PortId}
use Rattle.pw_graph.specs.declared.kind.Kind.{Kind}
use Rattle.pw_graph.specs.declared.kind.Kind.TheVariants as K
use Rattle.pw_lists.specs.declared.limit.Which.TheVariants as L
use Rattle.pw_lists.specs.Limits.{rate_limit, channels_limit, quantum_limit, buffers_limit}
use Rattle.graph_script.specs.declared.fault.ScriptWhy.TheVariants as W
use Rattle.graph_script.specs.declared.command.Command.{Command}
use Rattle.graph_script.specs.declared.command.Command.TheVariants as C
use Rattle.graph_script.specs.declared.name.Name.{Name}
use Rattle.graph_script.specs.declared.name.Name.TheVariants as N
use Rattle.graph_script.specs.declared.reading.ParsedLine.{ParsedLine}
use Rattle.graph_script.specs.declared.reading.Reading.{Reading}
use Rattle.graph_script.specs.Limits.{nodes_limit, epochs_limit, period_limit, amp_limit, gain_limit, delay_limit, priority_limit, loop_limit}
use Rattle.graph_script.specs.Limits.{cycles_limit, file_bytes_limit}
use Rattle.graph_script.specs.Checked.{no_args, one_arg, two_args, three_args, five_args, number_arg, integer_arg, list_arg, file_arg}
use Rattle.graph_script.specs.Nodes.{new_arg, node_arg, port_arg, kind_at, output_called, input_called, endpoint_arg, may_drive}
use Rattle.graph_script.specs.Earlier.{is_linked, epochs_so_far, saying, making_epoch, making}
use Rattle.graph_script.specs.FileNodes as files
use Rattle.graph_script.specs.NodeCommands as nodes
use Rattle.graph_script.specs.PortCommands as ports
use Rattle.graph_script.specs.GraphCommands as graph
use Rattle.graph_script.specs.CommandWords.{names, word_of, name_among, name_called, name_of, command_word}
use Rattle.graph_script.specs.Commands.{meaning_of_command, meaning_of_words}
use Rattle.graph_script.specs.Grammar.{reading_after}
use Rattle.graph_script.specs.Printing.{node_word, endpoint_word, args_of}
use Rattle.graph_script.proofs.CheckedLemmas.{from_bind, from_some, from_test, from_refusal}
use Rattle.graph_script.proofs.NodeLemmas.{new_arg-IsNew}
use Rattle.graph_script.proofs.NumeralLemmas.{decimal-number_arg, decimal-integer_arg, list_word-list_arg}
use Rattle.graph_script.proofs.RangeLemmas.{number-within}
use Rattle.graph_script.proofs.WordLemmas.{no_args-words, one_arg-words, two_args-words, three_args-words, five_args-words}
use Rattle.graph_script.proofs.WordLemmas.{IsFront, node_arg-word, port_arg-words, endpoint_arg-word, input_called-word}
use Rattle.graph_script.proofs.WordLemmas.{output_called-word}
use Rattle.graph_script.proofs.FitLemmas.{first_only-saying}

-- the command of a line was read under this name from these arguments
pub record IsSpelled (names : List (List ℕ)) (kinds : List Kind) (name : Name) (words : List (List ℕ)) (parsed : ParsedLine) : Type 0 where
  pub name_is : name_of parsed.command ≡ name
  pub args : args_of names kinds parsed.command ≡ words

-- what a line says leaves names and kinds that the final ones begin with
abbrev pub IsFrontAfter : Reading → ParsedLine → List (List ℕ) → List Kind → Type 0
IsFrontAfter reading parsed names kinds = IsFront (reading_after 0 reading (Some parsed)) names kinds

-- a new node's name is at its number
new_word : (reading : Reading) (names : List (List ℕ)) (kinds : List Kind) (command : Command) (name : List ℕ) (kind : Kind) (node : ℕ)
    → new_arg reading name ≡ Ok node
    → IsFrontAfter reading (record { command = command; made = Some (record { name = name; kind = kind }) }) names kinds
    → node_word names node ≡ name
new_word reading names kinds command name kind node e front =
    let is_new = new_arg-IsNew reading name node e in
    let place : node ≡ length reading.script.names + 0 = omega (arith, is_new.number) in
    let within : node < length (reading.script.names ++ name ∷ []) = omega (arith, is_new.number, length-append reading.script.names (name ∷ [])) in
    ap (λ ns. get_or ns node []) front.names_are
    ∙ get_or_append_left (reading.script.names ++ name ∷ []) front.more_names [] node within
    ∙ ap (λ k. get_or (reading.script.names ++ name ∷ []) k []) place
    ∙ get_or-append-add reading.script.names (name ∷ []) 0 []

-- a command that makes a node, whose arguments are as they were read
making-spelled : (reading : Reading) (names : List (List ℕ)) (kinds : List Kind) (command : Command) (name : List ℕ) (kind : Kind)
    (words : List (List ℕ)) (parsed : ParsedLine) (node : ℕ) (command_name : Name)
    → new_arg reading name ≡ Ok node → making reading command name kind ≡ Ok parsed → IsFrontAfter reading parsed names kinds
    → name_of command ≡ command_name → (node_word names node ≡ name → args_of names kinds command ≡ words)
    → IsSpelled names kinds command_name words parsed
making-spelled reading names kinds command name kind words parsed node command_name new e front name_is args =
    let room = from_test (nat_lt (length reading.script.names) nodes_limit) (W.TooMany L.Nodes) _ parsed e in
    let same : record { command = command; made = Some (record { name = name; kind = kind }) } ≡ parsed = cc (room.1) in
    let here = subst (λ s. IsFrontAfter reading s names kinds) (sym same) front in
    subst (IsSpelled names kinds command_name words) same (record {
      name_is = name_is;
      args = args (new_word reading names kinds command name kind node new here);
    })

-- a command that makes no node
saying-spelled : (names : List (List ℕ)) (kinds : List Kind) (command : Command) (words : List (List ℕ)) (parsed : ParsedLine) (command_name : Name)
    → saying command ≡ Ok parsed → name_of command ≡ command_name → args_of names kinds command ≡ words
    → IsSpelled names kinds command_name words parsed
saying-spelled names kinds command words parsed command_name e name_is args =
    let same : record { command = command; made = None } ≡ parsed = cc in
    subst (IsSpelled names kinds command_name words) same (record { name_is = name_is; args = args })

-- a line that makes no node leaves the names and kinds as they were
saying-front : (reading : Reading) (names : List (List ℕ)) (kinds : List Kind) (command : Command) (parsed : ParsedLine)
    → saying command ≡ Ok parsed → IsFrontAfter reading parsed names kinds → IsFront reading names kinds
saying-front reading names kinds command parsed e front =
    let same : record { command = command; made = None } ≡ parsed = cc in
    let here = subst (λ s. IsFrontAfter reading s names kinds) (sym same) front in
    record {
      more_names = here.more_names;
      names_are = here.names_are ∙ ap (λ xs. xs ++ here.more_names) (append-nil reading.script.names);
      more_kinds = here.more_kinds;
      kinds_are = here.kinds_are ∙ ap (λ xs. xs ++ here.more_kinds) (append-nil reading.kinds);
      named = ap length (sym (append-nil reading.kinds)) ∙ here.named ∙ ap length (append-nil reading.script.names);
    }

making_epoch-saying : (reading : Reading) (command : Command) (parsed : ParsedLine) → making_epoch reading command ≡ Ok parsed
    → saying command ≡ Ok parsed
making_epoch-saying reading command parsed e =
    (from_test (nat_lt (epochs_so_far reading) epochs_limit) (W.TooMany L.Epochs) (saying command) parsed e).1

from_file : (word file : List ℕ) → file_arg word ≡ Ok file → file ≡ word
from_file word file e =
    let good = from_test (nat_le (length word) file_bytes_limit) W.NameForm (Ok word) file e in cc (good.1)

-- each command that makes a node
square-spelled : (reading : Reading) (names : List (List ℕ)) (kinds : List Kind) (words : List (List ℕ)) (parsed : ParsedLine)
    → nodes.square_of reading words ≡ Ok parsed → IsFrontAfter reading parsed names kinds → IsSpelled names kinds N.Square words parsed
square-spelled reading names kinds words parsed e front =
    let args = from_bind (five_args words) _ parsed e in
    let node = from_bind (new_arg reading args.0.0) _ parsed args.2 in
    let rate = from_bind (number_arg 1 rate_limit args.0.1) _ parsed node.2 in
    let channels = from_bind (number_arg 1 channels_limit args.0.2) _ parsed rate.2 in
    let period = from_bind (number_arg 1 period_limit args.0.3) _ parsed channels.2 in
    let amp = from_bind (number_arg 0 amp_limit args.0.4) _ parsed period.2 in
    let one = decimal-number_arg 1 rate_limit rate.0 args.0.1 (omega arith) rate.1 in
    let two = decimal-number_arg 1 channels_limit channels.0 args.0.2 (omega arith) channels.1 in
    let three = decimal-number_arg 1 period_limit period.0 args.0.3 (omega arith) period.1 in
    let four = decimal-number_arg 0 amp_limit amp.0 args.0.4 (omega arith) amp.1 in
    making-spelled reading names kinds (C.Square node.0 rate.0 channels.0 period.0 (pos amp.0)) args.0.0
    (K.Square rate.0 channels.0 period.0 (pos amp.0)) words parsed node.0 N.Square node.1 amp.2 front refl
    (λ named. (λ i. named i ∷ one i ∷ two i ∷ three i ∷ four i ∷ []) ∙ sym (five_args-words words args.0 args.1))

gain-spelled : (reading : Reading) (names : List (List ℕ)) (kinds : List Kind) (words : List (List ℕ)) (parsed : ParsedLine)
    → nodes.gain_of reading words ≡ Ok parsed → IsFrontAfter reading parsed names kinds → IsSpelled names kinds N.Gain words parsed
gain-spelled reading names kinds words parsed e front =
    let args = from_bind (two_args words) _ parsed e in
    let node = from_bind (new_arg reading args.0.0) _ parsed args.2 in
    let g = from_bind (integer_arg gain_limit args.0.1) _ parsed node.2 in
    let one = decimal-integer_arg gain_limit g.0 args.0.1 (omega arith) g.1 in
    making-spelled reading names kinds (C.Gain node.0 g.0) args.0.0 (K.Gain g.0) words parsed node.0 N.Gain node.1 g.2 front refl
    (λ named. (λ i. named i ∷ one i ∷ []) ∙ sym (two_args-words words args.0 args.1))

mix2-spelled : (reading : Reading) (names : List (List ℕ)) (kinds : List Kind) (words : List (List ℕ)) (parsed : ParsedLine)
    → nodes.mix2_of reading words ≡ Ok parsed → IsFrontAfter reading parsed names kinds → IsSpelled names kinds N.Mix2 words parsed
mix2-spelled reading names kinds words parsed e front =
    let args = from_bind (three_args words) _ parsed e in
    let node = from_bind (new_arg reading args.0.0) _ parsed args.2 in
    let ga = from_bind (integer_arg gain_limit args.0.1) _ parsed node.2 in
    let gb = from_bind (integer_arg gain_limit args.0.2) _ parsed ga.2 in
    let one = decimal-integer_arg gain_limit ga.0 args.0.1 (omega arith) ga.1 in
    let two = decimal-integer_arg gain_limit gb.0 args.0.2 (omega arith) gb.1 in
    making-spelled reading names kinds (C.Mix2 node.0 ga.0 gb.0) args.0.0 (K.Mix2 ga.0 gb.0) words parsed node.0 N.Mix2 node.1 gb.2 front
    refl (λ named. (λ i. named i ∷ one i ∷ two i ∷ []) ∙ sym (three_args-words words args.0 args.1))

delay-spelled : (reading : Reading) (names : List (List ℕ)) (kinds : List Kind) (words : List (List ℕ)) (parsed : ParsedLine)
    → nodes.delay_of reading words ≡ Ok parsed → IsFrontAfter reading parsed names kinds → IsSpelled names kinds N.Delay words parsed
delay-spelled reading names kinds words parsed e front =
    let args = from_bind (two_args words) _ parsed e in
    let node = from_bind (new_arg reading args.0.0) _ parsed args.2 in
    let frames = from_bind (number_arg 0 delay_limit args.0.1) _ parsed node.2 in
    let one = decimal-number_arg 0 delay_limit frames.0 args.0.1 (omega arith) frames.1 in
    making-spelled reading names kinds (C.Delay node.0 frames.0) args.0.0 (K.Delay frames.0) words parsed node.0 N.Delay node.1 frames.2
    front refl (λ named. (λ i. named i ∷ one i ∷ []) ∙ sym (two_args-words words args.0 args.1))

split-spelled : (reading : Reading) (names : List (List ℕ)) (kinds : List Kind) (words : List (List ℕ)) (parsed : ParsedLine)
    → nodes.split_of reading words ≡ Ok parsed → IsFrontAfter reading parsed names kinds → IsSpelled names kinds N.Split words parsed
split-spelled reading names kinds words parsed e front =
    let name = from_bind (one_arg words) _ parsed e in
    let node = from_bind (new_arg reading name.0) _ parsed name.2 in
    making-spelled reading names kinds (C.Split node.0) name.0 K.Split words parsed node.0 N.Split node.1 node.2 front refl
    (λ named. (λ i. named i ∷ []) ∙ sym (one_arg-words words name.0 name.1))

meter-spelled : (reading : Reading) (names : List (List ℕ)) (kinds : List Kind) (words : List (List ℕ)) (parsed : ParsedLine)
    → nodes.meter_of reading words ≡ Ok parsed → IsFrontAfter reading parsed names kinds → IsSpelled names kinds N.Meter words parsed
meter-spelled reading names kinds words parsed e front =
    let name = from_bind (one_arg words) _ parsed e in
    let node = from_bind (new_arg reading name.0) _ parsed name.2 in
    making-spelled reading names kinds (C.Meter node.0) name.0 K.Meter words parsed node.0 N.Meter node.1 node.2 front refl
    (λ named. (λ i. named i ∷ []) ∙ sym (one_arg-words words name.0 name.1))

-- a new node with a file
pub record IsFiled (reading : Reading) (words : List (List ℕ)) (new : ℕ × List ℕ × List ℕ) : Type 0 where
  pub node : new_arg reading new.1 ≡ Ok new.0
  pub words_are : words ≡ new.1 ∷ new.2 ∷ []

node_and_file-IsFiled : (reading : Reading) (words : List (List ℕ)) (new : ℕ × List ℕ × List ℕ)
    → files.node_and_file reading words ≡ Ok new → IsFiled reading words new
node_and_file-IsFiled reading words new e =
    let args = from_bind (two_args words) _ new e in
    let node = from_bind (new_arg reading args.0.0) _ new args.2 in
    let file = from_bind (file_arg args.0.1) _ new node.2 in
    let same : (node.0, args.0.0, file.0) ≡ new = cc (file.2) in
    subst (IsFiled reading words) same (record {
      node = node.1;
      words_are = two_args-words words args.0 args.1 ∙ ap (λ f. args.0.0 ∷ f ∷ []) (sym (from_file args.0.1 file.0 file.1));
    })

source-spelled : (reading : Reading) (names : List (List ℕ)) (kinds : List Kind) (words : List (List ℕ)) (parsed : ParsedLine)
    → files.source_of reading words ≡ Ok parsed → IsFrontAfter reading parsed names kinds → IsSpelled names kinds N.Source words parsed
source-spelled reading names kinds words parsed e front =
    let new = from_bind (files.node_and_file reading words) _ parsed e in
    let filed = node_and_file-IsFiled reading words new.0 new.1 in
    making-spelled reading names kinds (C.Source new.0.0 new.0.2) new.0.1 K.Source words parsed new.0.0 N.Source filed.node new.2 front refl
    (λ named. (λ i. named i ∷ new.0.2 ∷ []) ∙ sym filed.words_are)

sink-spelled : (reading : Reading) (names : List (List ℕ)) (kinds : List Kind) (words : List (List ℕ)) (parsed : ParsedLine)
    → files.sink_of reading words ≡ Ok parsed → IsFrontAfter reading parsed names kinds → IsSpelled names kinds N.Sink words parsed
sink-spelled reading names kinds words parsed e front =
    let new = from_bind (files.node_and_file reading words) _ parsed e in
    let filed = node_and_file-IsFiled reading words new.0 new.1 in
    making-spelled reading names kinds (C.Sink new.0.0 new.0.2) new.0.1 K.Sink words parsed new.0.0 N.Sink filed.node new.2 front refl
    (λ named. (λ i. named i ∷ new.0.2 ∷ []) ∙ sym filed.words_are)

-- a new map
pub record IsMapped (reading : Reading) (words : List (List ℕ)) (new : ℕ × List ℕ × ℕ × List ℕ) : Type 0 where
  pub node : new_arg reading new.1 ≡ Ok new.0
  pub few : new.2 ≤ channels_limit
  pub words_are : words ≡ new.1 ∷ decimal new.2 ∷ new.3 ∷ []

node_and_channels-IsMapped : (reading : Reading) (words : List (List ℕ)) (new : ℕ × List ℕ × ℕ × List ℕ)
    → nodes.node_and_channels reading words ≡ Ok new → IsMapped reading words new
node_and_channels-IsMapped reading words new e =
    let args = from_bind (three_args words) _ new e in
    let node = from_bind (new_arg reading args.0.0) _ new args.2 in
    let channels = from_bind (number_arg 1 channels_limit args.0.1) _ new node.2 in
    let same : (node.0, args.0.0, channels.0, args.0.2) ≡ new = cc (channels.2) in
    let one = decimal-number_arg 1 channels_limit channels.0 args.0.1 (omega arith) channels.1 in
    subst (IsMapped reading words) same (record {
      node = node.1;
      few = (number-within 1 channels_limit channels.0 args.0.1 channels.1).1;
      words_are = three_args-words words args.0 args.1 ∙ ap (λ w. args.0.0 ∷ w ∷ args.0.2 ∷ []) (sym one);
    })

map-spelled : (reading : Reading) (names : List (List ℕ)) (kinds : List Kind) (words : List (List ℕ)) (parsed : ParsedLine)
    → nodes.map_of reading words ≡ Ok parsed → IsFrontAfter reading parsed names kinds → IsSpelled names kinds N.Map words parsed
map-spelled reading names kinds words parsed e front =
    let new = from_bind (nodes.node_and_channels reading words) _ parsed e in
    let mapped = node_and_channels-IsMapped reading words new.0 new.1 in
    let list = from_bind (list_arg new.0.2 new.0.3) _ parsed new.2 in
    let few = mapped.few in
    let one = list_word-list_arg new.0.2 list.0 new.0.3 (omega arith) list.1 in
    making-spelled reading names kinds (C.Map new.0.0 new.0.2 list.0) new.0.1 (K.Map new.0.2 list.0) words parsed new.0.0 N.Map
    mapped.node list.2 front refl (λ named. (λ i. named i ∷ decimal new.0.2 ∷ one i ∷ []) ∙ sym mapped.words_are)

-- each command for a port or a link
offer-spelled : (reading : Reading) (names : List (List ℕ)) (kinds : List Kind) (words : List (List ℕ)) (parsed : ParsedLine)
    → ports.offer_of reading words ≡ Ok parsed → IsFrontAfter reading parsed names kinds → IsSpelled names kinds N.Offer words parsed
offer-spelled reading names kinds words parsed e front =
    let offer = from_bind (ports.port_and_file reading words) _ parsed e in
    let args = from_bind (three_args words) _ offer.0 offer.1 in
    let port = from_bind (port_arg reading args.0.0 args.0.1) _ offer.0 args.2 in
    let file = from_bind (file_arg args.0.2) _ offer.0 port.2 in
    let late = from_refusal (is_linked reading port.0.node) W.OfferLate _ offer.0 file.2 in
    let same : (port.0, file.0) ≡ offer.0 = cc (late.1) in
    let here = saying-front reading names kinds (C.Offer offer.0.0 offer.0.1) parsed offer.2 front in
    let one = port_arg-words reading names kinds args.0.0 args.0.1 port.0 here port.1 in
    let three = from_file args.0.2 file.0 file.1 in
    let spelled : args_of names kinds (C.Offer port.0 file.0) ≡ words =
    (λ i. one.0 i ∷ one.1 i ∷ three i ∷ []) ∙ sym (three_args-words words args.0 args.1) in
    saying-spelled names kinds (C.Offer offer.0.0 offer.0.1) words parsed N.Offer offer.2 refl
    (subst (λ (o : PortId × List ℕ). args_of names kinds (C.Offer o.0 o.1) ≡ words) same spelled)

buffers-spelled : (reading : Reading) (names : List (List ℕ)) (kinds : List Kind) (words : List (List ℕ)) (parsed : ParsedLine)
    → ports.buffers_of reading words ≡ Ok parsed → IsFrontAfter reading parsed names kinds → IsSpelled names kinds N.Buffers words parsed
buffers-spelled reading names kinds words parsed e front =
    let args = from_bind (three_args words) _ parsed e in
    let port = from_bind (port_arg reading args.0.0 args.0.1) _ parsed args.2 in
    let n = from_bind (number_arg 1 buffers_limit args.0.2) _ parsed port.2 in
    let here = saying-front reading names kinds (C.Buffers port.0 n.0) parsed n.2 front in
    let one = port_arg-words reading names kinds args.0.0 args.0.1 port.0 here port.1 in
    let three = decimal-number_arg 1 buffers_limit n.0 args.0.2 (omega arith) n.1 in
    saying-spelled names kinds (C.Buffers port.0 n.0) words parsed N.Buffers n.2 refl
    ((λ i. one.0 i ∷ one.1 i ∷ three i ∷ []) ∙ sym (three_args-words words args.0 args.1))

ends_of-words : (reading : Reading) (names : List (List ℕ)) (kinds : List Kind) (words : List (List ℕ)) (ends : PortId × PortId)
    → IsFront reading names kinds → ports.ends_of reading words ≡ Ok ends
    → endpoint_word names kinds ends.0 ∷ endpoint_word names kinds ends.1 ∷ [] ≡ words
ends_of-words reading names kinds words ends here e =
    let args = from_bind (two_args words) _ ends e in
    let from = from_bind (endpoint_arg output_called reading args.0.0) _ ends args.2 in
    let to = from_bind (endpoint_arg input_called reading args.0.1) _ ends from.2 in
    let same : (from.0, to.0) ≡ ends = cc (to.2) in
    let one = endpoint_arg-word output_called reading names kinds args.0.0 from.0 output_called-word here from.1 in
    let two = endpoint_arg-word input_called reading names kinds args.0.1 to.0 input_called-word here to.1 in
    subst (λ (p : PortId × PortId). endpoint_word names kinds p.0 ∷ endpoint_word names kinds p.1 ∷ [] ≡ words) same
    ((λ i. one i ∷ two i ∷ []) ∙ sym (two_args-words words args.0 args.1))

link-spelled : (reading : Reading) (names : List (List ℕ)) (kinds : List Kind) (words : List (List ℕ)) (parsed : ParsedLine)
    → ports.link_of reading words ≡ Ok parsed → IsFrontAfter reading parsed names kinds → IsSpelled names kinds N.Link words parsed
link-spelled reading names kinds words parsed e front =
    let ends = from_bind (ports.ends_of reading words) _ parsed e in
    let here = saying-front reading names kinds (C.Link ends.0.0 ends.0.1) parsed ends.2 front in
    saying-spelled names kinds (C.Link ends.0.0 ends.0.1) words parsed N.Link ends.2 refl
    (ends_of-words reading names kinds words ends.0 here ends.1)

unlink-spelled : (reading : Reading) (names : List (List ℕ)) (kinds : List Kind) (words : List (List ℕ)) (parsed : ParsedLine)
    → ports.unlink_of reading words ≡ Ok parsed → IsFrontAfter reading parsed names kinds → IsSpelled names kinds N.Unlink words parsed
unlink-spelled reading names kinds words parsed e front =
    let ends = from_bind (ports.ends_of reading words) _ parsed e in
    let here = saying-front reading names kinds (C.Unlink ends.0.0 ends.0.1) parsed ends.2 front in
    saying-spelled names kinds (C.Unlink ends.0.0 ends.0.1) words parsed N.Unlink ends.2 refl
    (ends_of-words reading names kinds words ends.0 here ends.1)

-- each other command
quantum-spelled : (reading : Reading) (names : List (List ℕ)) (kinds : List Kind) (words : List (List ℕ)) (parsed : ParsedLine)
    → graph.quantum_of reading words ≡ Ok parsed → IsFrontAfter reading parsed names kinds → IsSpelled names kinds N.Quantum words parsed
quantum-spelled reading names kinds words parsed e front =
    let word = from_bind (one_arg words) _ parsed e in
    let n = from_bind (number_arg 1 quantum_limit word.0) _ parsed word.2 in
    let one = decimal-number_arg 1 quantum_limit n.0 word.0 (omega arith) n.1 in
    saying-spelled names kinds (C.Quantum n.0) words parsed N.Quantum (first_only-saying reading.script.lines (C.Quantum n.0) parsed n.2) refl
    ((λ i. one i ∷ []) ∙ sym (one_arg-words words word.0 word.1))

driver-spelled : (reading : Reading) (names : List (List ℕ)) (kinds : List Kind) (words : List (List ℕ)) (parsed : ParsedLine)
    → graph.driver_of reading words ≡ Ok parsed → IsFrontAfter reading parsed names kinds → IsSpelled names kinds N.Driver words parsed
driver-spelled reading names kinds words parsed e front =
    let args = from_bind (two_args words) _ parsed e in
    let node = from_bind (node_arg reading args.0.0) _ parsed args.2 in
    let priority = from_bind (number_arg 0 priority_limit args.0.1) _ parsed node.2 in
    let may = from_test (may_drive (kind_at reading node.0)) W.NotDriverKind (saying (C.Driver node.0 priority.0)) parsed priority.2 in
    let here = saying-front reading names kinds (C.Driver node.0 priority.0) parsed may.1 front in
    let one = node_arg-word reading names kinds args.0.0 node.0 here node.1 in
    let two = decimal-number_arg 0 priority_limit priority.0 args.0.1 (omega arith) priority.1 in
    saying-spelled names kinds (C.Driver node.0 priority.0) words parsed N.Driver may.1 refl
    ((λ i. one.word_is i ∷ two i ∷ []) ∙ sym (two_args-words words args.0 args.1))

loop-spelled : (reading : Reading) (names : List (List ℕ)) (kinds : List Kind) (words : List (List ℕ)) (parsed : ParsedLine)
    → graph.loop_of reading words ≡ Ok parsed → IsFrontAfter reading parsed names kinds → IsSpelled names kinds N.Loop words parsed
loop-spelled reading names kinds words parsed e front =
    let args = from_bind (two_args words) _ parsed e in
    let node = from_bind (node_arg reading args.0.0) _ parsed args.2 in
    let k = from_bind (number_arg 0 loop_limit args.0.1) _ parsed node.2 in
    let here = saying-front reading names kinds (C.Loop node.0 k.0) parsed k.2 front in
    let one = node_arg-word reading names kinds args.0.0 node.0 here node.1 in
    let two = decimal-number_arg 0 loop_limit k.0 args.0.1 (omega arith) k.1 in
    saying-spelled names kinds (C.Loop node.0 k.0) words parsed N.Loop k.2 refl
    ((λ i. one.word_is i ∷ two i ∷ []) ∙ sym (two_args-words words args.0 args.1))

node_of-word : (reading : Reading) (names : List (List ℕ)) (kinds : List Kind) (words : List (List ℕ)) (node : ℕ)
    → IsFront reading names kinds → graph.node_of reading words ≡ Ok node → node_word names node ∷ [] ≡ words
node_of-word reading names kinds words node here e =
    let name = from_bind (one_arg words) _ node e in
    let one = node_arg-word reading names kinds name.0 node here name.2 in
    ap (λ w. w ∷ []) one.word_is ∙ sym (one_arg-words words name.0 name.1)

on-spelled : (reading : Reading) (names : List (List ℕ)) (kinds : List Kind) (words : List (List ℕ)) (parsed : ParsedLine)
    → graph.on_of reading words ≡ Ok parsed → IsFrontAfter reading parsed names kinds → IsSpelled names kinds N.On words parsed
on-spelled reading names kinds words parsed e front =
    let node = from_bind (graph.node_of reading words) _ parsed e in
    let here = saying-front reading names kinds (C.On node.0) parsed node.2 front in
    saying-spelled names kinds (C.On node.0) words parsed N.On node.2 refl (node_of-word reading names kinds words node.0 here node.1)

off-spelled : (reading : Reading) (names : List (List ℕ)) (kinds : List Kind) (words : List (List ℕ)) (parsed : ParsedLine)
    → graph.off_of reading words ≡ Ok parsed → IsFrontAfter reading parsed names kinds → IsSpelled names kinds N.Off words parsed
off-spelled reading names kinds words parsed e front =
    let node = from_bind (graph.node_of reading words) _ parsed e in
    let here = saying-front reading names kinds (C.Off node.0) parsed node.2 front in
    saying-spelled names kinds (C.Off node.0) words parsed N.Off node.2 refl (node_of-word reading names kinds words node.0 here node.1)

async-spelled : (reading : Reading) (names : List (List ℕ)) (kinds : List Kind) (words : List (List ℕ)) (parsed : ParsedLine)
    → graph.async_of reading words ≡ Ok parsed → IsFrontAfter reading parsed names kinds → IsSpelled names kinds N.Async words parsed
async-spelled reading names kinds words parsed e front =
    let node = from_bind (graph.node_of reading words) _ parsed e in
    let late = from_refusal (is_linked reading node.0) W.AsyncLate (saying (C.Async node.0)) parsed node.2 in
    let here = saying-front reading names kinds (C.Async node.0) parsed late.1 front in
    saying-spelled names kinds (C.Async node.0) words parsed N.Async late.1 refl (node_of-word reading names kinds words node.0 here node.1)

cycles-spelled : (reading : Reading) (names : List (List ℕ)) (kinds : List Kind) (words : List (List ℕ)) (parsed : ParsedLine)
    → graph.cycles_of reading words ≡ Ok parsed → IsFrontAfter reading parsed names kinds → IsSpelled names kinds N.Cycles words parsed
cycles-spelled reading names kinds words parsed e front =
    let word = from_bind (one_arg words) _ parsed e in
    let n = from_bind (number_arg 1 cycles_limit word.0) _ parsed word.2 in
    let one = decimal-number_arg 1 cycles_limit n.0 word.0 (omega arith) n.1 in
    saying-spelled names kinds (C.Cycles n.0) words parsed N.Cycles (making_epoch-saying reading (C.Cycles n.0) parsed n.2) refl
    ((λ i. one i ∷ []) ∙ sym (one_arg-words words word.0 word.1))

drain-spelled : (reading : Reading) (names : List (List ℕ)) (kinds : List Kind) (words : List (List ℕ)) (parsed : ParsedLine)
    → graph.drain_of reading words ≡ Ok parsed → IsFrontAfter reading parsed names kinds → IsSpelled names kinds N.Drain words parsed
drain-spelled reading names kinds words parsed e front =
    let none = from_bind (no_args words) _ parsed e in
    saying-spelled names kinds C.Drain words parsed N.Drain (making_epoch-saying reading C.Drain parsed none.2) refl
    (sym (no_args-words words none.0 none.1))

meaning_of_command-spelled : (reading : Reading) (names : List (List ℕ)) (kinds : List Kind) (name : Name) (words : List (List ℕ))
    (parsed : ParsedLine) → meaning_of_command reading name words ≡ Ok parsed → IsFrontAfter reading parsed names kinds
    → IsSpelled names kinds name words parsed
unfolding meaning_of_command
meaning_of_command-spelled reading names kinds N.Quantum words parsed e front = quantum-spelled reading names kinds words parsed e front
meaning_of_command-spelled reading names kinds N.Source words parsed e front = source-spelled reading names kinds words parsed e front
meaning_of_command-spelled reading names kinds N.Square words parsed e front = square-spelled reading names kinds words parsed e front
meaning_of_command-spelled reading names kinds N.Gain words parsed e front = gain-spelled reading names kinds words parsed e front
meaning_of_command-spelled reading names kinds N.Mix2 words parsed e front = mix2-spelled reading names kinds words parsed e front
meaning_of_command-spelled reading names kinds N.Delay words parsed e front = delay-spelled reading names kinds words parsed e front
meaning_of_command-spelled reading names kinds N.Map words parsed e front = map-spelled reading names kinds words parsed e front
meaning_of_command-spelled reading names kinds N.Split words parsed e front = split-spelled reading names kinds words parsed e front
meaning_of_command-spelled reading names kinds N.Sink words parsed e front = sink-spelled reading names kinds words parsed e front
meaning_of_command-spelled reading names kinds N.Meter words parsed e front = meter-spelled reading names kinds words parsed e front
meaning_of_command-spelled reading names kinds N.Driver words parsed e front = driver-spelled reading names kinds words parsed e front
meaning_of_command-spelled reading names kinds N.Loop words parsed e front = loop-spelled reading names kinds words parsed e front
meaning_of_command-spelled reading names kinds N.Offer words parsed e front = offer-spelled reading names kinds words parsed e front
meaning_of_command-spelled reading names kinds N.Buffers words parsed e front = buffers-spelled reading names kinds words parsed e front
meaning_of_command-spelled reading names kinds N.Link words parsed e front = link-spelled reading names kinds words parsed e front
meaning_of_command-spelled reading names kinds N.Unlink words parsed e front = unlink-spelled reading names kinds words parsed e front
meaning_of_command-spelled reading names kinds N.On words parsed e front = on-spelled reading names kinds words parsed e front
meaning_of_command-spelled reading names kinds N.Off words parsed e front = off-spelled reading names kinds words parsed e front
meaning_of_command-spelled reading names kinds N.Async words parsed e front = async-spelled reading names kinds words parsed e front
meaning_of_command-spelled reading names kinds N.Cycles words parsed e front = cycles-spelled reading names kinds words parsed e front
meaning_of_command-spelled reading names kinds N.Drain words parsed e front = drain-spelled reading names kinds words parsed e front

-- a command that is called by a word has that word; over any list of commands
called_first : (first found : Name) (more : Option Name) (word : List ℕ) → (more ≡ Some found → word_of found ≡ word)
    → cond (bytes_eq word (word_of first)) (Some first) more ≡ Some found → word_of found ≡ word
called_first first found more word rest = at (bytes_eq word (word_of first)) refl
  where
    at : (b : Bool) → bytes_eq word (word_of first) ≡ b → cond b (Some first) more ≡ Some found → word_of found ≡ word
    at true is e =
        let same : first ≡ found = cc in
        ap word_of (sym same) ∙ sym ((bytes_eq-Decides word (word_of first)).0 is)
    at false is e = rest e

name_among-word : (list : List Name) (word : List ℕ) (found : Name) → name_among list word ≡ Some found → word_of found ≡ word
name_among-word [] word found e = cc
name_among-word (first ∷ more) word found e =
    called_first first found (name_among more word) word (λ h. name_among-word more word found h) e

name_called-word : (word : List ℕ) (found : Name) → name_called word ≡ Some found → word_of found ≡ word
name_called-word word found e = name_among-word names word found e

-- THE WORDS of what a line says are those of the line
pub words_spelled : (reading : Reading) (names : List (List ℕ)) (kinds : List Kind) (words : List (List ℕ)) (parsed : ParsedLine)
    → meaning_of_words reading words ≡ Ok parsed → IsFrontAfter reading parsed names kinds
    → command_word parsed.command ∷ args_of names kinds parsed.command ≡ words
words_spelled reading names kinds [] parsed e front = cc
words_spelled reading names kinds (word ∷ words) parsed e front =
    let name = from_bind (ok_or (name_called word) W.Command) _ parsed e in
    let spelled = meaning_of_command-spelled reading names kinds name.0 words parsed name.2 front in
    let first = ap word_of spelled.name_is ∙ name_called-word word name.0 (from_some (name_called word) W.Command name.0 name.1) in
    (λ i. first i ∷ spelled.args i)
