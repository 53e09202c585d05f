-- Items in byte order of their names.
use Rattle.std.specs.Prelude.{◌≡◌, ◌++◌, ◌∷◌, [], ℕ, List, length}
use Rattle.std.specs.Ordering.{nat_cmp}
use Rattle.std.specs.declared.cmp.Ordering.TheVariants.{Less}
use Rattle.std.specs.Cmp.Lexicographic.{slice_cmp}

-- the first name comes before the second
abbrev pub IsUnder : List ℕ → List ℕ → Type 0
IsUnder m n = slice_cmp nat_cmp m n ≡ Less

-- the names of all of these come before the name
abbrev pub AreUnder : {X : Type 0} → (X → List ℕ) → List ℕ → List X → Type 0
AreUnder name_of n [] = Unit {0}
AreUnder name_of n (x ∷ xs) = IsUnder (name_of x) n × AreUnder name_of n xs

-- the names of all of these come behind the name
abbrev pub AreOver : {X : Type 0} → (X → List ℕ) → List ℕ → List X → Type 0
AreOver name_of n [] = Unit {0}
AreOver name_of n (x ∷ xs) = IsUnder n (name_of x) × AreOver name_of n xs

-- each name comes before those of the items behind it
abbrev pub IsAscending : {X : Type 0} → (X → List ℕ) → List X → Type 0
IsAscending name_of [] = Unit {0}
IsAscending name_of (x ∷ xs) = AreOver name_of (name_of x) xs × IsAscending name_of xs

-- the item at this place has the name, those before it come before, and those behind it behind
pub record IsAt {X : Type 0} (name_of : X → List ℕ) (n : List ℕ) (items : List X) (at : ℕ) : Type 0 where
  pub before : List X
  pub here : X
  pub behind : List X
  pub parts : items ≡ before ++ here ∷ behind
  pub place : length before ≡ at
  pub named : name_of here ≡ n
  pub under : AreUnder name_of n before
  pub over : AreOver name_of n behind

-- no item has the name: those before this place come before it, and those from there on behind it
pub record IsGap {X : Type 0} (name_of : X → List ℕ) (n : List ℕ) (items : List X) (at : ℕ) : Type 0 where
  pub before : List X
  pub behind : List X
  pub parts : items ≡ before ++ behind
  pub place : length before ≡ at
  pub under : AreUnder name_of n before
  pub over : AreOver name_of n behind
