-- Laws of `specs/LinkNotes.antt` and `specs/Makers.antt`: lines one by one.
use Rattle.std.proofs.Common.{◌≡◌, ℕ, suc, ◌+◌, ◌-◌, ◌<◌, Bool, true, false, cond, Some, List, [], ◌∷◌, ◌++◌, take, find, filter, flat_map, zip, refl, sym, ap, ◌∙◌, arith}
use Rattle.std.proofs.lemmas.List.{append_assoc}
use Rattle.pw_graph.specs.declared.plan.LinkLine.{LinkLine}
use Rattle.pw_graph.specs.declared.plan.PlanNode.{PlanNode}
use Rattle.graph_script.specs.declared.script.Line.{Line}
use Rattle.refused_links.specs.declared.refused_link.RefusedLink.{RefusedLink}
use Rattle.fault_messages.specs.LinkNotes.{link_note, link_notes}
use Rattle.fault_messages.specs.ScriptLines.{has_ends}
use Rattle.fault_messages.specs.working.LinkSteps.{first_note, link_part, links_after, links_behind}

-- the notes on lines with two ends, each with what it did
abbrev pair_notes : (words : List (List ℕ)) (nodes : List PlanNode) (refused : List RefusedLink) → List Line → List LinkLine → List ℕ
pair_notes words nodes refused lines links = flat_map (λ p. link_note words nodes refused p.0.line p.1) (zip lines links)

-- there is none where nothing is left to pair with
none_left : (words : List (List ℕ)) (nodes : List PlanNode) (refused : List RefusedLink) (lines : List Line) → pair_notes words nodes refused lines [] ≡ []
none_left words nodes refused [] = refl
none_left words nodes refused (line ∷ lines) = refl

-- those of the first line, then those of the others
first_link : (words : List (List ℕ)) (nodes : List PlanNode) (refused : List RefusedLink) (line : Line) (lines : List Line) (links : List LinkLine)
    → link_notes words nodes refused (line ∷ lines) links
    ≡ link_part words nodes refused line links ++ link_notes words nodes refused lines (links_behind line links)
first_link words nodes refused line lines links = by (has_ends line.command) (filter (λ l. has_ends l.command) lines) links where
  by : (b : Bool) (kept : List Line) (ls : List LinkLine) → pair_notes words nodes refused (cond b (line ∷ kept) kept) ls
      ≡ cond b (first_note words nodes refused line.line ls) [] ++ pair_notes words nodes refused kept (cond b (links_after ls) ls)
  by true kept [] = sym (none_left words nodes refused kept)
  by true kept (link ∷ ls) = refl
  by false kept ls = refl

-- the same after a text
pub more_links : (words : List (List ℕ)) (nodes : List PlanNode) (refused : List RefusedLink) (text : List ℕ) (line : Line) (lines : List Line) (links : List LinkLine)
    → text ++ link_notes words nodes refused (line ∷ lines) links
    ≡ text ++ link_part words nodes refused line links ++ link_notes words nodes refused lines (links_behind line links)
more_links words nodes refused text line lines links =
    ap (λ notes. text ++ notes) (first_link words nodes refused line lines links)
    ∙ sym (append_assoc text (link_part words nodes refused line links) (link_notes words nodes refused lines (links_behind line links)))

-- a line that does not pass a test is passed over
pub skip_line : (p : List ℕ → Bool) (n k : ℕ) (line : List ℕ) (all lines : List (List ℕ)) → k < n
    → all ≡ line ∷ lines → p line ≡ false
    → find p (take (n - k) all) ≡ find p (take (n - (k + 1)) lines)
skip_line p n k line all lines less e fails =
    let m : n - k ≡ suc (n - (k + 1)) = omega (arith, less) in
    ap (λ j. find p (take j all)) m
    ∙ (ap (λ ls. find p (take (suc (n - (k + 1))) ls)) e
    ∙ ap (λ b. cond b (Some line) (find p (take (n - (k + 1)) lines))) fails)
