-- Entries of others.
use Rattle.std.proofs.Common.{◌≡◌, ◌≢◌, ◌==◌, ◌++◌, ◌∷◌, [], ℕ, Bool, true, false, List, refl, sym, ◌∙◌, append_assoc, eqb-true, eq-eqb}
use Rattle.e3_types.specs.declared.entries.Entry.{Entry}

pub apart : (a b : ℕ) → a ≢ b → (a == b) ≡ false
apart a b other = by (a == b) refl
  where
    by : (t : Bool) → (a == b) ≡ t → (a == b) ≡ false
    by true is = absurd (other (eqb-true a b is))
    by false is = is

pub other_one : (site : ℕ) (e : Entry) → (e.owner == site) ≡ false → e.owner ≢ site
other_one site e apart same = let yes : (e.owner == site) ≡ true = eq-eqb e.owner site same in let no : true ≡ false = sym yes ∙ apart in cc

pub one_more : (h more : List Entry) (e : Entry) → (h ++ e ∷ []) ++ more ≡ h ++ e ∷ more
one_more h more e = append_assoc h (e ∷ []) more
