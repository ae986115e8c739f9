-- The links that lines refuse, line by line.
use Rattle.std.proofs.Common.{◌≡◌, ℕ, ◌+◌, ◌<◌, ◌≤◌, List, [], ◌++◌, length, get_or, drop, Option, refl, sym, ap, ◌∙◌, subst}
use Rattle.std.proofs.Common.{append_assoc, append-nil}
use Rattle.std.specs.Prelude.{option_to_list}
use Rattle.std.proofs.lemmas.List.{drop_all}
use Rattle.wav_files.specs.declared.wav.WavIn.{WavIn}
use Rattle.graph_script.specs.declared.script.Line.{Line}
use Rattle.graph_lines.specs.declared.graph.Graph.{Graph}
use Rattle.graph_plan.proofs.FollowingLemmas.{next_line}
use Rattle.refused_links.specs.declared.refused_link.RefusedLink.{RefusedLink}
use Rattle.refused_links.specs.Refused.{RefusesAt, Refuses}

-- REFUSED SO FAR: whatever the lines that are left refuse, all lines refuse it after this
pub record HasRefusedSoFar (waves : List WavIn) (start : Graph) (lines : List Line) (i : ℕ) (g : Graph)
    (refused : List RefusedLink) : Type 0 where
  pub rest : (later : List RefusedLink) → Refuses waves g (drop i lines) later → Refuses waves start lines (refused ++ later)

pub refused_begins : (waves : List WavIn) (start : Graph) (lines : List Line) (refused : List RefusedLink) → refused ≡ []
    → HasRefusedSoFar waves start lines 0 start refused
refused_begins waves start lines refused none = record {
  rest = λ later h. subst (λ (rs : List RefusedLink). Refuses waves start lines (rs ++ later)) (sym none) h;
}

pub refused_more : (waves : List WavIn) (start g next : Graph) (lines : List Line) (i : ℕ) (line : Line) (added : Option RefusedLink)
    (refused more : List RefusedLink) → i < length lines → line ≡ get_or lines i line → HasRefusedSoFar waves start lines i g refused
    → RefusesAt waves g line next added → more ≡ refused ++ option_to_list added → HasRefusedSoFar waves start lines (i + 1) next more
refused_more waves start g next lines i line added refused more lt is h step e = record {
  rest = λ later k. subst (Refuses waves start lines)
      (sym (ap (λ (rs : List RefusedLink). rs ++ later) e ∙ append_assoc refused (option_to_list added) later))
      (h.rest (option_to_list added ++ later)
      (subst (λ (ls : List Line). Refuses waves g ls (option_to_list added ++ later)) (sym (next_line waves g lines i line lt is))
      (next, added, later, step, k, refl)));
}

pub refused_ends : (waves : List WavIn) (start g : Graph) (lines : List Line) (i : ℕ) (refused : List RefusedLink) → length lines ≤ i
    → HasRefusedSoFar waves start lines i g refused → Refuses waves start lines refused
refused_ends waves start g lines i refused past h = subst (Refuses waves start lines) (append-nil refused)
    (h.rest [] (subst (λ (ls : List Line). Refuses waves g ls []) (sym (drop_all i lines past)) refl))
