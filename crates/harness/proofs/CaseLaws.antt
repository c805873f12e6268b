-- Laws of the cases of rows.
use Rattle.std.proofs.Common.{◌≡◌, ℕ, zero, suc, ◌≤◌, true, false, List, [], ◌∷◌, length, get_or, drop, refl, arith, length-drop}
use Rattle.harness.specs.Text.{is_remark}
use Rattle.harness.specs.Cases.{cases_by, cases_in}

-- as many turns as there are rows are enough
by-any : (n m : ℕ) (rows : List (List ℕ)) → length rows ≤ n → length rows ≤ m → cases_by n rows ≡ cases_by m rows
unfolding cases_by
by-any zero zero rows h k = refl
by-any zero (suc m) [] h k = refl
by-any zero (suc m) (row ∷ rows) h k = absurd (omega arith)
by-any (suc n) zero [] h k = refl
by-any (suc n) zero (row ∷ rows) h k = absurd (omega arith)
by-any (suc n) (suc m) [] h k = refl
by-any (suc n) (suc m) (row ∷ rows) h k =
    let others = drop 1 (drop 1 rows) in
    let e = by-any n m rows (omega arith) (omega arith) in
    let short : length others ≤ length rows = omega (arith, length-drop 1 (drop 1 rows), length-drop 1 rows) in
    let f = by-any n m others (omega arith) (omega arith) in
    rw (e, f)

-- a remark is passed over
pub cases-after-remark : (row : List ℕ) (rows : List (List ℕ)) → is_remark row ≡ true → cases_in (row ∷ rows) ≡ cases_in rows
unfolding cases_in cases_by
cases-after-remark row rows e = rw e

-- any other row is a case's first
pub cases-at-first :
    (row : List ℕ) (rows : List (List ℕ)) →
    is_remark row ≡ false →
    cases_in (row ∷ rows) ≡ (row ∷ get_or rows 0 [] ∷ get_or (drop 1 rows) 0 [] ∷ []) ∷ cases_in (drop 1 (drop 1 rows))
unfolding cases_in cases_by
cases-at-first row rows e =
    let others = drop 1 (drop 1 rows) in
    let short : length others ≤ length rows = omega (arith, length-drop 1 (drop 1 rows), length-drop 1 rows) in
    rw (e, by-any (length rows) (length others) others short (omega arith))

pub cases-of-none : cases_in [] ≡ []
unfolding cases_in cases_by
cases-of-none = refl

-- .. with the two rows behind it, one taken after the other
pub case-more :
    (all rows others last : List (List ℕ)) (row second third : List ℕ) →
    all ≡ row ∷ rows →
    is_remark row ≡ false →
    second ≡ get_or rows 0 [] →
    others ≡ drop 1 rows →
    third ≡ get_or others 0 [] →
    last ≡ drop 1 others →
    cases_in all ≡ (row ∷ second ∷ third ∷ []) ∷ cases_in last
case-more all rows others last row second third a r s o t l = rw (a, s, t, l, o) (cases-at-first row rows r)
