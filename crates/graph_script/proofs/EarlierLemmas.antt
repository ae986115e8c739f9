-- Laws of `specs/Earlier.antt`: the epochs and the linked nodes after one more line.
use Rattle.std.proofs.Common.{◌≡◌, ℕ, ◌+◌, ◌<◌, ◌≤◌, Bool, true, false, cond, ◌||◌, List, [], ◌∷◌, ◌++◌, length, get_or, set}
use Rattle.std.proofs.Common.{refl, sym, ap, ◌∙◌, subst, arith}
use Rattle.std.specs.Prelude.{count_by, ◌==◌, Some}
use Rattle.std.proofs.lemmas.Bool.{eqb-true, eqb-false}
use Rattle.std.proofs.lemmas.List.{get_or-set_same, get_or-set_other, length-set}
use Rattle.std.proofs.lemmas.List.Folds.{list_any-append}
use Rattle.std.proofs.lemmas.List.Sums.{sum_by_push}
use Rattle.graph_script.specs.declared.command.Command.{Command}
use Rattle.graph_script.specs.declared.command.Command.TheVariants as C
use Rattle.graph_script.specs.declared.script.Line.{Line}
use Rattle.graph_script.specs.declared.reading.ParsedLine.{ParsedLine}
use Rattle.graph_script.specs.declared.reading.Reading.{Reading}
use Rattle.graph_script.specs.Limits.{epochs_limit}
use Rattle.graph_script.specs.Earlier.{is_epoch, epochs_so_far, names_link, is_linked}
use Rattle.graph_script.specs.Grammar.{reading_after}
use Rattle.graph_script.specs.working.Progress.{marked, counted}
use Rattle.graph_script.specs.Ranges.{HasNodes}

count_by-push : (lines : List Line) (line : Line)
    → count_by (λ l. is_epoch l.command) (lines ++ line ∷ []) ≡ counted (count_by (λ l. is_epoch l.command) lines) line.command
count_by-push lines line =
    sum_by_push (λ l. cond (is_epoch l.command) 1 0) lines line ∙ at (is_epoch line.command)
  where
    at : (b : Bool) → count_by (λ l. is_epoch l.command) lines + cond b 1 0
        ≡ cond b (count_by (λ l. is_epoch l.command) lines + 1) (count_by (λ l. is_epoch l.command) lines)
    at true = omega arith
    at false = omega arith

pub epochs-push : (lines : List Line) (line : Line) → count_by (λ l. is_epoch l.command) lines ≤ epochs_limit
    → (is_epoch line.command ≡ true → count_by (λ l. is_epoch l.command) lines < epochs_limit)
    → count_by (λ l. is_epoch l.command) (lines ++ line ∷ []) ≤ epochs_limit
epochs-push lines line few room = subst (λ n. n ≤ epochs_limit) (sym (count_by-push lines line)) (at (is_epoch line.command) refl)
  where
    at : (b : Bool) → is_epoch line.command ≡ b
        → cond b (count_by (λ l. is_epoch l.command) lines + 1) (count_by (λ l. is_epoch l.command) lines) ≤ epochs_limit
    at true is = omega (arith, room is)
    at false is = few

pub epochs-after : (number : ℕ) (reading : Reading) (parsed : ParsedLine)
    → epochs_so_far (reading_after number reading (Some parsed)) ≡ counted (epochs_so_far reading) parsed.command
epochs-after number reading parsed = count_by-push reading.script.lines (record { line = number; command = parsed.command })

-- the nodes that are marked after a command
marks : (linked : List Bool) (a b n : ℕ) → length linked ≡ 64 → a < 64 → b < 64 → n < 64
    → get_or (set (set linked a true) b true) n false ≡ (get_or linked n false || (a == n || b == n))
marks linked a b n len la lb ln = at_second (b == n) refl
  where
    or-true : (x y : Bool) → y ≡ true → true ≡ (x || y)
    or-true true y e = refl
    or-true false y e = sym e

    or-false : (x : Bool) → x ≡ (x || false)
    or-false true = refl
    or-false false = refl

    or-right : (x y : Bool) → y ≡ true → (x || y) ≡ true
    or-right true y e = refl
    or-right false y e = e

    at_first : (f : Bool) → (a == n) ≡ f → (b == n) ≡ false → get_or (set linked a true) n false ≡ (get_or linked n false || (a == n || b == n))
    at_first true is off =
        let same : a ≡ n = eqb-true a n is in
        subst (λ m. get_or (set linked a true) m false ≡ true) same (get_or-set_same linked a true false (omega arith))
        ∙ or-true (get_or linked n false) (a == n || b == n) (ap (λ x. x || b == n) is)
    at_first false is off =
        let other : n ≡ a → ⊥ = λ s. eqb-false a n is (sym s) in
        let neither : (a == n || b == n) ≡ false = ap (λ x. x || b == n) is ∙ off in
        get_or-set_other linked a n true false other
        ∙ or-false (get_or linked n false) ∙ ap (λ x. get_or linked n false || x) (sym neither)

    at_second : (f : Bool) → (b == n) ≡ f → get_or (set (set linked a true) b true) n false ≡ (get_or linked n false || (a == n || b == n))
    at_second true is =
        let same : b ≡ n = eqb-true b n is in
        let long : b < length (set linked a true) = omega (arith, length-set linked a true) in
        subst (λ m. get_or (set (set linked a true) b true) m false ≡ true) same
        (get_or-set_same (set linked a true) b true false long)
        ∙ or-true (get_or linked n false) (a == n || b == n) (or-right (a == n) (b == n) is)
    at_second false is =
        let other : n ≡ b → ⊥ = λ s. eqb-false b n is (sym s) in
        get_or-set_other (set linked a true) b n true false other ∙ at_first (a == n) refl is

or-none : (x : Bool) → x ≡ (x || false)
or-none true = refl
or-none false = refl

marked-is : (linked : List Bool) (command : Command) (n : ℕ) → length linked ≡ 64 → HasNodes 64 command → n < 64
    → get_or (marked linked command) n false ≡ (get_or linked n false || (names_link n command || false))
marked-is linked (C.Link from to) n long there lt =
    marks linked from.node to.node n long there.0 there.1 lt
    ∙ ap (λ x. get_or linked n false || x) (or-none (from.node == n || to.node == n))
marked-is linked _ n long there lt = or-none (get_or linked n false)

pub length-marked : (linked : List Bool) (command : Command) → length (marked linked command) ≡ length linked
length-marked linked (C.Link from to) = length-set (set linked from.node true) to.node true ∙ length-set linked from.node true
length-marked linked _ = refl

pub linked-after : (number : ℕ) (reading : Reading) (parsed : ParsedLine) (linked : List Bool) → length linked ≡ 64 → HasNodes 64 parsed.command
    → ((n : ℕ) → n < 64 → get_or linked n false ≡ is_linked reading n) → (n : ℕ) → n < 64
    → get_or (marked linked parsed.command) n false ≡ is_linked (reading_after number reading (Some parsed)) n
linked-after number reading parsed linked long there before n lt =
    let line : Line = record { line = number; command = parsed.command } in
    marked-is linked parsed.command n long there lt
    ∙ ap (λ x. x || (names_link n parsed.command || false)) (before n lt)
    ∙ sym (list_any-append (λ l. names_link n l.command) reading.script.lines (line ∷ []))
