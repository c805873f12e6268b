-- Laws of the fields of a row.
use Rattle.std.proofs.Common.{◌≡◌, ℕ, zero, suc, ◌+◌, ◌-◌, ◌*◌, ◌<◌, ◌≤◌, Bool, true, false, cond, List, [], ◌∷◌, length, drop, set, refl, ap, arith, length-drop, drop-drop}
use Rattle.harness.specs.Text.{quoted, length_before, part_behind, hex_number}
use Rattle.harness.specs.Fields.{after_first_field, fields_by, fields_of, starts_with_key}
use Rattle.harness.specs.Words.{with_list}

-- what follows the first field is shorter
pub after-shorter : (row : List ℕ) → length (after_first_field row) ≤ length row - 1
unfolding after_first_field part_behind
after-shorter row = go (starts_with_key row (quoted "text"))
  where
    go : (t : Bool) → length (cond t [] (drop (length_before 32 row + 1) row)) ≤ length row - 1
    go true = omega arith
    go false = omega (arith, length-drop (length_before 32 row + 1) row)

-- as many turns as there are bytes are enough
by-any : (n m : ℕ) (row : List ℕ) → length row ≤ n → length row ≤ m → fields_by n row ≡ fields_by m row
unfolding fields_by
by-any zero zero row h k = refl
by-any zero (suc m) [] h k = refl
by-any zero (suc m) (b ∷ row) h k = absurd (omega arith)
by-any (suc n) zero [] h k = refl
by-any (suc n) zero (b ∷ row) h k = absurd (omega arith)
by-any (suc n) (suc m) [] h k = refl
by-any (suc n) (suc m) (b ∷ row) h k =
    ap (λ (l : List (List ℕ)). (b ∷ row) ∷ l)
    (by-any n m (after_first_field (b ∷ row)) (omega (arith, after-shorter (b ∷ row))) (omega (arith, after-shorter (b ∷ row))))

-- the fields of a row that is not empty: the first, and those of what follows it
pub fields-of-more : (row : List ℕ) → 0 < length row → fields_of row ≡ row ∷ fields_of (after_first_field row)
unfolding fields_of fields_by
fields-of-more [] h = absurd (omega arith)
fields-of-more (b ∷ row) h =
    ap (λ (l : List (List ℕ)). (b ∷ row) ∷ l)
    (let after = after_first_field (b ∷ row) in
    by-any (length row) (length after) after (omega (arith, after-shorter (b ∷ row))) (omega arith))

pub fields-of-none : (row : List ℕ) → length row ≤ 0 → fields_of row ≡ []
unfolding fields_of fields_by
fields-of-none [] h = refl
fields-of-none (b ∷ row) h = absurd (omega arith)

-- one word more
pub one-put :
    (at i count : ℕ) (list memory : List ℕ) →
    i < count →
    with_list (count - (i + 1)) (at + (i + 1)) (drop ((i + 1) * 5) list) (set memory (at + i) (hex_number 4 (drop (i * 5) list)))
    ≡ with_list (count - i) (at + i) (drop (i * 5) list) memory
one-put at i count list memory h =
    let e : count - i ≡ suc (count - (i + 1)) = omega arith in
    let a : at + (i + 1) ≡ at + i + 1 = omega arith in
    let f : (i + 1) * 5 ≡ i * 5 + 5 = omega arith in
    let d : drop ((i + 1) * 5) list ≡ drop 5 (drop (i * 5) list) = rw (f, drop-drop) in
    rw (e, a, d)

-- no word yet
pub none-put :
    (at count : ℕ) (list memory : List ℕ) → with_list (count - 0) (at + 0) (drop (0 * 5) list) memory ≡ with_list count at list memory
none-put at count list memory =
    let e : count - 0 ≡ count = omega arith in
    let a : at + 0 ≡ at = omega arith in
    rw (e, a)

-- all words
pub all-put :
    (at i count : ℕ) (list memory : List ℕ) → count ≤ i → with_list (count - i) (at + i) (drop (i * 5) list) memory ≡ memory
all-put at i count list memory h =
    let e : count - i ≡ 0 = omega arith in
    rw e
