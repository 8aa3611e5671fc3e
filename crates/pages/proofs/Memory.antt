-- Reads and writes of one record in the memory of a state, whatever stands behind the records.
use Rattle.std.proofs.Common.{◌≡◌, ℕ, ◌+◌, ◌*◌, ◌<◌, ◌≤◌, List, [], ◌∷◌, ◌++◌, map, length, get_or, take, drop, set, Option, sym, ap, ◌∙◌, add_assoc, arith, length-append}
use Rattle.std.proofs.lemmas.List.{length-map, map-set, get_or-map}
use Rattle.model.specs.Pages.{Entry, free, Entries, at}
use Rattle.model.specs.State.{Limits, State, entry, with_entries}
use Rattle.pages.specs.Layout.{row, rows, header, tail, encode}
use Rattle.pages.specs.Flat.{flat, Wide, list_put}
use Rattle.pages.specs.Rows.{number_at, numbers_at, number_put, numbers_put}
use Rattle.pages.proofs.Lists.{put_after, part_after, part_of_one, set_is_put, length_padded}
use Rattle.pages.proofs.Flats.{length_flat, flat_put, flat_part}
use Rattle.pages.proofs.Records.{length_row}

pub wide_rows : (d : Entries) → Wide 2048 (map row d)
wide_rows [] = tt
wide_rows (x ∷ xs) = (length_row x, wide_rows xs)

row_at : (d : Entries) (p : ℕ) → p < length d → get_or (map row d) p [] ≡ row (at d p)
row_at d p h = get_or-map row d p free [] h

pub length_rows : (d : Entries) → length (rows d) ≡ length d * 2048
length_rows d = length_flat 2048 (map row d) (wide_rows d) ∙ ap (λ n. n * 2048) (length-map d row)

pub rows_put : (d : Entries) (t : List ℕ) (p k : ℕ) (ws : List ℕ) (x : Entry) → p < length d → k + length ws ≤ 2048 →
    list_put (row (at d p)) k ws ≡ row x → list_put (rows d ++ t) (p * 2048 + k) ws ≡ rows (set d p x) ++ t
rows_put d t p k ws x h g q =
    flat_put 2048 (map row d) t p k ws (row x) (wide_rows d) (omega (arith, length-map d row)) g
    (ap (λ r. list_put r k ws) (row_at d p h) ∙ q)
    ∙ ap (λ rs. flat rs ++ t) (sym (map-set row d p x))

pub rows_part : (d : Entries) (t : List ℕ) (p k n : ℕ) → p < length d → k + n ≤ 2048 →
    take n (drop (p * 2048 + k) (rows d ++ t)) ≡ take n (drop k (row (at d p)))
rows_part d t p k n h g =
    flat_part 2048 (map row d) t p k n (wide_rows d) (omega (arith, length-map d row)) g ∙ ap (λ r. take n (drop k r)) (row_at d p h)

pub length_header : (l : Limits) (r : Option ℕ) → length (header l r) ≡ 256
unfolding header
length_header l r = length_padded 256 _

pub length_encode : (l : Limits) (s : State) → length (encode l s) ≡ 256 + length s.entries * 2048
length_encode l s =
    omega (
      arith,
      length-append (header l s.running) (rows s.entries ++ tail),
      length_header l s.running,
      length-append (rows s.entries) tail,
      length_rows s.entries,
    )

-- the same at the memory's own indices
pub entry_put : (l : Limits) (s : State) (p k : ℕ) (ws : List ℕ) (x : Entry) → p < length s.entries → k + length ws ≤ 2048 →
    list_put (row (entry s p)) k ws ≡ row x → numbers_put (encode l s) p k ws ≡ encode l (with_entries s (set s.entries p x))
entry_put l s p k ws x h g q =
    ap (λ i. list_put (encode l s) i ws) (add_assoc 256 (p * 2048) k)
    ∙ put_after (header l s.running) (rows s.entries ++ tail) ws 256 (p * 2048 + k) (length_header l s.running)
    ∙ ap (λ z. header l s.running ++ z) (rows_put s.entries tail p k ws x h g q)

pub entry_set : (l : Limits) (s : State) (p k v : ℕ) (x : Entry) → p < length s.entries → k < 2048 →
    set (row (entry s p)) k v ≡ row x → number_put (encode l s) p k v ≡ encode l (with_entries s (set s.entries p x))
entry_set l s p k v x h g q =
    set_is_put (encode l s) (256 + p * 2048 + k) v (omega (arith, length_encode l s))
    ∙ entry_put l s p k (v ∷ []) x h (omega arith) (sym (set_is_put (row (entry s p)) k v (omega (arith, length_row (entry s p)))) ∙ q)

pub entry_part : (l : Limits) (s : State) (p k n : ℕ) → p < length s.entries → k + n ≤ 2048 →
    numbers_at (encode l s) p k n ≡ take n (drop k (row (entry s p)))
entry_part l s p k n h g =
    ap (λ i. take n (drop i (encode l s))) (add_assoc 256 (p * 2048) k)
    ∙ part_after (header l s.running) (rows s.entries ++ tail) 256 (p * 2048 + k) n (length_header l s.running)
    ∙ rows_part s.entries tail p k n h g

pub entry_number : (l : Limits) (s : State) (p k : ℕ) → p < length s.entries → k < 2048 →
    number_at (encode l s) p k ≡ get_or (row (entry s p)) k 0
entry_number l s p k h g =
    part_of_one (encode l s) (256 + p * 2048 + k) ∙ ap (λ ws. get_or ws 0 0) (entry_part l s p k 1 h (omega arith))
    ∙ sym (part_of_one (row (entry s p)) k)
