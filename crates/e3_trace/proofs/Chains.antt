-- Fields with spaces between them are read one behind the other.
use Rattle.std.proofs.Common.{◌≡◌, ℕ, true, List, ◌∷◌, ◌++◌, Some, ap, sym, ◌∙◌, append_assoc}
use Rattle.std.specs.Prelude.{codes}
use Rattle.e3_trace.specs.Cuts.{Form, pair_of}
use Rattle.e3_report.specs.lines.Marks.{space}
use Rattle.e3_trace.specs.Tellable.{lacks}
use Rattle.e3_trace.proofs.Cutting.{pair_again, lacks_join}
use Rattle.e3_trace.proofs.Words.{joined}

-- a text that is read by a form, and has no space
pub record IsWord {A : Type 0} (a : Form A) (s : List ℕ) (x : A) : Type 0 where
  pub whole : lacks space s ≡ true
  pub read : a s ≡ Some x

-- two texts with a space between them
abbrev pub two : List ℕ → List ℕ → List ℕ
two s t = s ++ codes " " ++ t

-- three, and four
abbrev pub three : List ℕ → List ℕ → List ℕ → List ℕ
three s t u = two s t ++ codes " " ++ u

abbrev pub four : List ℕ → List ℕ → List ℕ → List ℕ → List ℕ
four s t u v = three s t u ++ codes " " ++ v

three_is : (s t u : List ℕ) → three s t u ≡ s ++ space ∷ two t u
three_is s t u =
    joined space (two s t) u ∙ append_assoc (s ++ codes " ") t (space ∷ u) ∙ joined space s (t ++ space ∷ u)
    ∙ ap (λ w. s ++ space ∷ w) (sym (joined space t u))

four_is : (s t u v : List ℕ) → four s t u v ≡ s ++ space ∷ three t u v
four_is s t u v =
    ap (λ w. (w ++ codes " ") ++ v) (three_is s t u)
    ∙ ap (λ w. w ++ v) (append_assoc s (space ∷ two t u) (codes " "))
    ∙ append_assoc s (space ∷ (two t u ++ codes " ")) v

-- two values
pub two_again : {A B : Type 0} (a : Form A) (b : Form B) (s t : List ℕ) (x : A) (y : B) → IsWord a s x → b t ≡ Some y → pair_of space a b (two s t) ≡ Some (x, y)
two_again a b s t x y ra rb = ap (pair_of space a b) (joined space s t) ∙ pair_again space a b s t x y ra.whole ra.read rb

-- three values
pub three_again : {A B C : Type 0} (a : Form A) (b : Form B) (c : Form C) (s t u : List ℕ) (x : A) (y : B) (z : C)
    → IsWord a s x → IsWord b t y → c u ≡ Some z → pair_of space a (pair_of space b c) (three s t u) ≡ Some (x, (y, z))
three_again a b c s t u x y z ra rb rc =
    ap (pair_of space a (pair_of space b c)) (three_is s t u)
    ∙ pair_again space a (pair_of space b c) s (two t u) x (y, z) ra.whole ra.read (two_again b c t u y z rb rc)

-- four values
pub four_again : {A B C D : Type 0} (a : Form A) (b : Form B) (c : Form C) (d : Form D) (s t u v : List ℕ) (x : A) (y : B) (z : C) (w : D)
    → IsWord a s x → IsWord b t y → IsWord c u z → d v ≡ Some w → pair_of space a (pair_of space b (pair_of space c d)) (four s t u v) ≡ Some (x, (y, (z, w)))
four_again a b c d s t u v x y z w ra rb rc rd =
    ap (pair_of space a (pair_of space b (pair_of space c d))) (four_is s t u v)
    ∙ pair_again space a (pair_of space b (pair_of space c d)) s (three t u v) x (y, (z, w)) ra.whole ra.read (three_again b c d t u v y z w rb rc rd)

-- texts without a mark, with spaces between them
pub two_lack : (mark : ℕ) (s t : List ℕ) → lacks mark (codes " ") ≡ true → lacks mark s ≡ true → lacks mark t ≡ true → lacks mark (two s t) ≡ true
two_lack mark s t gap p q = lacks_join mark (s ++ codes " ") t (lacks_join mark s (codes " ") p gap) q

pub three_lack : (mark : ℕ) (s t u : List ℕ) → lacks mark (codes " ") ≡ true → lacks mark s ≡ true → lacks mark t ≡ true → lacks mark u ≡ true → lacks mark (three s t u) ≡ true
three_lack mark s t u gap p q r = two_lack mark (two s t) u gap (two_lack mark s t gap p q) r

pub four_lack : (mark : ℕ) (s t u v : List ℕ) → lacks mark (codes " ") ≡ true → lacks mark s ≡ true → lacks mark t ≡ true → lacks mark u ≡ true → lacks mark v ≡ true
    → lacks mark (four s t u v) ≡ true
four_lack mark s t u v gap p q r o = two_lack mark (three s t u) v gap (three_lack mark s t u gap p q r) o
