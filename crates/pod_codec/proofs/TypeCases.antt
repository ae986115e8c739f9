-- What holds at each type that is known, and at those that are not, holds at each number.
use Rattle.std.proofs.Common.{◌≡◌, ℕ, ◌≤◌, ◌==◌, ◌&&◌, ◌||◌, nat_le, false, inl, inr, sym, subst, arith}
use Rattle.std.proofs.lemmas.Bool.{leb-true, eqb-true, cases_lt, cases_Bool, and_parts, or_cases}
use Rattle.pod_codec.specs.PodType.{is_known_type}

by_range : (P : ℕ → Type 0) → P 1 → P 2 → P 3 → P 4 → P 5 → P 6 → P 7 → P 8 → P 9 → P 10 → P 11 → P 12 → P 13 → P 14 → P 15
    → P 16 → (t : ℕ) → 1 ≤ t → t ≤ 16 → P t
by_range P p1 p2 p3 p4 p5 p6 p7 p8 p9 p10 p11 p12 p13 p14 p15 p16 t low high =
    elim (cases_lt t 2) [
      | inl l1 ↦ subst P (omega arith) p1
      | inr m1 ↦ elim (cases_lt t 3) [
        | inl l2 ↦ subst P (omega arith) p2
        | inr m2 ↦ elim (cases_lt t 4) [
          | inl l3 ↦ subst P (omega arith) p3
          | inr m3 ↦ elim (cases_lt t 5) [
            | inl l4 ↦ subst P (omega arith) p4
            | inr m4 ↦ elim (cases_lt t 6) [
              | inl l5 ↦ subst P (omega arith) p5
              | inr m5 ↦ elim (cases_lt t 7) [
                | inl l6 ↦ subst P (omega arith) p6
                | inr m6 ↦ elim (cases_lt t 8) [
                  | inl l7 ↦ subst P (omega arith) p7
                  | inr m7 ↦ elim (cases_lt t 9) [
                    | inl l8 ↦ subst P (omega arith) p8
                    | inr m8 ↦ elim (cases_lt t 10) [
                      | inl l9 ↦ subst P (omega arith) p9
                      | inr m9 ↦ elim (cases_lt t 11) [
                        | inl l10 ↦ subst P (omega arith) p10
                        | inr m10 ↦ elim (cases_lt t 12) [
                          | inl l11 ↦ subst P (omega arith) p11
                          | inr m11 ↦ elim (cases_lt t 13) [
                            | inl l12 ↦ subst P (omega arith) p12
                            | inr m12 ↦ elim (cases_lt t 14) [
                              | inl l13 ↦ subst P (omega arith) p13
                              | inr m13 ↦ elim (cases_lt t 15) [
                                | inl l14 ↦ subst P (omega arith) p14
                                | inr m14 ↦ elim (cases_lt t 16)
                                    [ inl l15 ↦ subst P (omega arith) p15 | inr m15 ↦ subst P (omega arith) p16 ]
                              ]
                            ]
                          ]
                        ]
                      ]
                    ]
                  ]
                ]
              ]
            ]
          ]
        ]
      ]
    ]

pub by_type : (P : ℕ → Type 0) → P 1 → P 2 → P 3 → P 4 → P 5 → P 6 → P 7 → P 8 → P 9 → P 10 → P 11 → P 12 → P 13 → P 14 → P 15
    → P 16 → P 18 → P 19 → ((t : ℕ) → is_known_type t ≡ false → P t) → (t : ℕ) → P t
by_type P p1 p2 p3 p4 p5 p6 p7 p8 p9 p10 p11 p12 p13 p14 p15 p16 p18 p19 other t =
    elim (cases_Bool (is_known_type t)) [
      | inl known ↦
          elim (or_cases (nat_le 1 t && nat_le t 16) ((t == 18) || (t == 19)) known) [
            | inl low ↦
                let both = and_parts (nat_le 1 t) (nat_le t 16) low in
                by_range P p1 p2 p3 p4 p5 p6 p7 p8 p9 p10 p11 p12 p13 p14 p15 p16 t (leb-true 1 t both.0) (leb-true t 16 both.1)
            | inr high ↦ elim (or_cases (t == 18) (t == 19) high)
                [ inl x ↦ subst P (sym (eqb-true t 18 x)) p18 | inr y ↦ subst P (sym (eqb-true t 19 y)) p19 ]
          ]
      | inr unknown ↦ other t unknown
    ]
