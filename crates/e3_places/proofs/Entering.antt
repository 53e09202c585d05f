-- The rows of a birth, one by one.
use Rattle.std.specs.Prelude.{◌≡◌, ◌<◌, ◌∷◌, if◌then◌else◌, cond, ℕ, zero, suc, Bool, true, false, List, Option, Some, unwrap_or, drop, length, []}
use Rattle.std.specs.Map.{lookup}
use Rattle.std.proofs.Common.{refl, ap, sym, subst, ◌∙◌, arith, get_or}
use Rattle.e3_types.specs.declared.transactions.Answer.TheVariants.{Value}
use Rattle.e3_types.specs.declared.transactions.Row.{Row}
use Rattle.e3_types.specs.Same.{same_numbers}
use Rattle.e3_places.specs.declared.places.Place.{Place}
use Rattle.e3_places.specs.Keeping.{no_claims, bare, at_name, place_at}
use Rattle.e3_places.specs.Rising.{first_row, RowsStand}
use Rattle.e3_places.proofs.Putting.{Inserts, names_turned}
use Rattle.e3_places.proofs.Risen.{row_first}

pub row_put : (ms ns : List (List ℕ × Place)) (k : List ℕ) (row : Row) (x : Place) → k ≡ row.name → x ≡ record { claims = no_claims; row = Value row.val } → Inserts at_name ms ns k x
    → (name : List ℕ) → place_at ns name ≡ first_row name row (place_at ms name)
row_put ms ns k row x e f h name =
    ap (λ (o : Option Place). unwrap_or o bare) (h name)
    ∙ ap (λ (b : Bool). unwrap_or (cond b (Some x) (lookup (at_name name) ms)) bare) (names_turned k name ∙ ap (same_numbers name) e) ∙ by (same_numbers name row.name)
  where
    with_row : Place
    with_row = record { claims = no_claims; row = Value row.val }

    by : (b : Bool) → unwrap_or (cond b (Some x) (lookup (at_name name) ms)) bare ≡ (if b then with_row else place_at ms name)
    by true = f
    by false = refl

drop_next : (xs : List Row) (i : ℕ) (x : Row) → i < length xs → x ≡ get_or xs i x → drop i xs ≡ x ∷ drop (suc i) xs
drop_next [] i x h e = absurd (omega arith)
drop_next (y ∷ ys) zero x h e = ap (λ (z : Row). z ∷ ys) (sym e)
drop_next (y ∷ ys) (suc i) x h e = drop_next ys i x (omega arith) e

-- a row before the last of those that are in
pub rows_back : (ms ns : List (List ℕ × Place)) (rows : List Row) (i j : ℕ) (row : Row) → j ≡ suc i → i < length rows → row ≡ get_or rows i row → RowsStand ms (drop j rows)
    → ((name : List ℕ) → place_at ns name ≡ first_row name row (place_at ms name)) → RowsStand ns (drop i rows)
rows_back ms ns rows i j row e h is stand put =
    subst (λ (l : List Row). RowsStand ns l) (sym (drop_next rows i row h is))
    (row_first ms ns (drop (suc i) rows) row (subst (λ (k : ℕ). RowsStand ms (drop k rows)) e stand) put)
