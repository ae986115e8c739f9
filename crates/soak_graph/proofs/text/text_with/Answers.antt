-- The parts of the text, one after the other.
use Rattle.std.proofs.Common.{◌≡◌, ℕ, ◌++◌, sym, ap, ◌∙◌, codes, List}
use Rattle.soak_graph.specs.declared.drawing.Chain.{Chain}
use Rattle.soak_graph.specs.working.Drawing.{chain_in}
use Rattle.soak_graph.specs.SoakChains.{gain, delay, off}
use Rattle.soak_graph.specs.SoakText.{ended, text_of_lines, node_lines, end_lines, all_link_lines, play_lines}
use Rattle.soak_graph.proofs.LineLemmas.{text_parts}
use Rattle.soak_graph.proofs.text.text_with.Goals as goal

abbrev lines_in : List Chain → List (List ℕ)
lines_in list = node_lines (λ i. (chain_in list i).gain) (λ i. (chain_in list i).delay)

pub returns : goal.returns
returns c =
    let x = c.args.drawn.now.number in
    let front : c.extend.new.self ≡ ended (codes "quantum 256") = c.in_ok-extend.ensures.ok
    ∙ ap (λ t. t ++ ended (codes "quantum 256")) c.new-text.ensures in
    let list : lines_in c.as_slice.result.now ≡ node_lines (gain x) (delay x) = ap lines_in (c.as_slice.ensures ∙ c.requires.chains) in
    let nodes : c.put_chains.new.text ≡ ended (codes "quantum 256") ++ text_of_lines (node_lines (gain x) (delay x)) =
    c.in_ok-put_chains.ensures ∙ (λ i. front i ++ text_of_lines (list i)) in
    let ends : c.put_ends.new.text ≡ (ended (codes "quantum 256") ++ text_of_lines (node_lines (gain x) (delay x))) ++ text_of_lines end_lines =
    c.in_ok-put_ends.ensures ∙ ap (λ t. t ++ text_of_lines end_lines) nodes in
    let play : c.put_play.new.text ≡ (c.put_ends.new.text ++ text_of_lines all_link_lines) ++ text_of_lines (play_lines (off x)) =
    c.in_ok-put_play.ensures ∙ (λ i. c.in_ok-put_all_links.ensures i ++ text_of_lines (play_lines (c.requires.off i))) in
    play ∙ ap (λ t. (t ++ text_of_lines all_link_lines) ++ text_of_lines (play_lines (off x))) ends ∙ sym (text_parts x)
