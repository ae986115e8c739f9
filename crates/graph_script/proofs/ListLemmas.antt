-- Laws of lists of channels: an item taken off the front of those that are left.
use Rattle.std.proofs.Common.{◌≡◌, ℕ, ◌+◌, ◌-◌, ◌≤◌, ◌&&◌, true, false, cond, List, [], ◌∷◌, ◌++◌, length, map, sym, ap, ◌∙◌, arith}
use Rattle.std.proofs.Common.{length-append, append_assoc, append-nil}
use Rattle.std.specs.Prelude.{Option, Some, None, is_some, nat_le, if◌then◌else◌}
use Rattle.std.specs.List.{list_all, slice_split}
use Rattle.std.proofs.lemmas.Bool.{le-leb, lt-leb, and_right}
use Rattle.pw_lists.specs.Limits.{channels_limit}
use Rattle.graph_script.specs.Arguments.{number_of, digits_number, is_channel, is_comma, channel_list}
use Rattle.graph_script.proofs.RangeLemmas.{digits_number-number_of}

-- numbers that were read, and items that are left
abbrev pub listed : ℕ → List ℕ → List (List ℕ) → Option (List ℕ)
listed channels list items =
    if list_all (is_channel channels) items && nat_le (length list + length items) channels_limit
    then Some (list ++ map digits_number items) else None

pub listed_start : (channels : ℕ) (word : List ℕ) → listed channels [] (slice_split is_comma word) ≡ channel_list channels word
listed_start channels word =
    let items = slice_split is_comma word in
    let e : 0 + length items ≡ length items = omega arith in
    ap (λ n. cond (list_all (is_channel channels) items && nat_le n channels_limit) (Some (map digits_number items)) None) e

-- an item that is no channel, and one too many
pub listed_bad : (channels : ℕ) (list item : List ℕ) (items pieces : List (List ℕ)) → pieces ≡ item ∷ items
    → number_of 0 (channels - 1) item ≡ None → listed channels list pieces ≡ None
listed_bad channels list item items pieces cut e =
    ap (λ ps. listed channels list ps) cut
    ∙ ap (λ o. cond ((is_some o && list_all (is_channel channels) items) && nat_le (length list + length (item ∷ items)) channels_limit)
    (Some (list ++ digits_number item ∷ map digits_number items)) None) e

pub listed_full : (channels : ℕ) (list item : List ℕ) (items pieces : List (List ℕ)) → pieces ≡ item ∷ items
    → channels_limit ≤ length list → listed channels list pieces ≡ None
listed_full channels list item items pieces cut full =
    let over : nat_le (length list + length (item ∷ items)) channels_limit ≡ false = lt-leb _ _ (omega arith) in
    let no = and_right (list_all (is_channel channels) (item ∷ items)) (nat_le (length list + length (item ∷ items)) channels_limit) over in
    ap (λ ps. listed channels list ps) cut
    ∙ ap (λ b. cond b (Some (list ++ digits_number item ∷ map digits_number items)) None) no

pub listed_more : (channels n : ℕ) (list item : List ℕ) (items : List (List ℕ)) → number_of 0 (channels - 1) item ≡ Some n
    → listed channels list (item ∷ items) ≡ listed channels (list ++ n ∷ []) items
listed_more channels n list item items e =
    let count : length list + length (item ∷ items) ≡ length (list ++ n ∷ []) + length items = omega (arith, length-append list (n ∷ [])) in
    let more : list ++ digits_number item ∷ map digits_number items ≡ (list ++ n ∷ []) ++ map digits_number items =
    ap (λ m. list ++ m ∷ map digits_number items) (digits_number-number_of 0 (channels - 1) n item e)
    ∙ sym (append_assoc list (n ∷ []) (map digits_number items)) in
    ap (λ o. cond ((is_some o && list_all (is_channel channels) items) && nat_le (length list + length (item ∷ items)) channels_limit)
    (Some (list ++ digits_number item ∷ map digits_number items)) None) e
    ∙ (λ i. cond (list_all (is_channel channels) items && nat_le (count i) channels_limit) (Some (more i)) None)

pub listed_end : (channels : ℕ) (list : List ℕ) → length list ≤ channels_limit → listed channels list [] ≡ Some list
listed_end channels list few =
    let within : nat_le (length list + 0) channels_limit ≡ true = le-leb _ _ (omega arith) in
    ap (λ b. cond b (Some (list ++ [])) None) within ∙ ap (λ xs. Some xs) (append-nil list)
