-- The oldest of transactions whose sites are sets, whatever order they stand in.
use Rattle.std.proofs.Common.{◌≡◌, ◌==◌, ◌||◌, ◌∷◌, [], ℕ, Bool, true, false, List, Option, Some, None, ◌⊎◌, inl, inr, refl, sym, ap, subst, ◌∙◌, if◌then◌else◌, fold, eqb-true, eq-eqb}
use Rattle.std.specs.List.{list_any, AllByRecursion as Each}
use Rattle.std.proofs.lemmas.Bool.{or_parts, or_from, or_left, or_right, true≢false}
use Rattle.e3_types.specs.declared.transactions.Txn.{Txn}
use Rattle.e3_types.specs.Same.{same_numbers, same_txn, is_older, oldest}
use Rattle.e3_types.specs.Sites.{sites_of, bits_of}
use Rattle.e3_types.proofs.Orders.{older_irreflexive, older_total, older_transitive}
use Rattle.e3_types.proofs.SameSites.{same_numbers_eq, same_numbers_refl}
use Rattle.e3_laws.proofs.brief.Locks.{equal_tests}
use Rattle.e3_laws.proofs.steps.Each.{each-both}
use Rattle.e3_laws.proofs.steps.Tests.{same_is, same_self}
use Rattle.e3_world.specs.Transactions.{IsFoundByBits}

-- each test finds one among the first where it finds one among the second
abbrev pub SameFound : List Txn → List Txn → Type 0
SameFound us vs = (p : Txn → Bool) → list_any p us ≡ list_any p vs

-- what is not older than a third is not older than one that is older than that
not_older_than : (a b c : Txn) → is_older b c ≡ true → is_older a c ≡ false → is_older a b ≡ false
not_older_than a b c older not_so = by (is_older a b) refl
  where
    by : (q : Bool) → is_older a b ≡ q → q ≡ false
    by false is = refl
    by true is = absurd (true≢false (sym (older_transitive a b c is older) ∙ not_so))

-- and what one is older than that is not older than a third is not either
not_older_then : (a b c : Txn) → is_older a b ≡ true → is_older a c ≡ false → is_older b c ≡ false
not_older_then a b c older not_so = by (is_older b c) refl
  where
    by : (q : Bool) → is_older b c ≡ q → q ≡ false
    by false is = refl
    by true is = absurd (true≢false (sym (older_transitive a b c older is) ∙ not_so))

-- none is older than the oldest, which is the first or an older one of the others
record IsOldest (P : Txn → Type 0) (u : Txn) (vs : List Txn) (r : Txn) : Type 0 where
  first : is_older u r ≡ false
  none : list_any (λ v. is_older v r) vs ≡ false
  from : (r ≡ u) ⊎ (P r × (is_older r u ≡ true))

finds : (P : Txn → Type 0) (u : Txn) (vs : List Txn) → Each P vs → IsOldest P u vs (oldest u vs)
finds P u [] each = record { first = older_irreflexive u; none = refl; from = inl refl }
finds P u (v ∷ vs) each = by (finds P v vs each.1) (finds P u vs each.1) (is_older v u) refl
  where
    later : is_older v u ≡ true → ((oldest v vs ≡ v) ⊎ (P (oldest v vs) × (is_older (oldest v vs) v ≡ true))) → P (oldest v vs) × (is_older (oldest v vs) u ≡ true)
    later is (inl e) = (subst P (sym e) each.0, subst (λ (x : Txn). is_older x u ≡ true) (sym e) is)
    later is (inr p) = (p.0, older_transitive (oldest v vs) v u p.1 is)

    still : is_older v u ≡ false → ((oldest u vs ≡ u) ⊎ (P (oldest u vs) × (is_older (oldest u vs) u ≡ true))) → is_older v (oldest u vs) ≡ false
    still is (inl e) = subst (λ (x : Txn). is_older v x ≡ false) (sym e) is
    still is (inr p) = not_older_than v (oldest u vs) u p.1 is

    by : IsOldest P v vs (oldest v vs) → IsOldest P u vs (oldest u vs) → (b : Bool) → is_older v u ≡ b → IsOldest P u (v ∷ vs) (oldest u (v ∷ vs))
    by new was true is = rw is (record {
      first = not_older_then v u (oldest v vs) is new.first;
      none = or_from (is_older v (oldest v vs)) (list_any (λ x. is_older x (oldest v vs)) vs) new.first new.none;
      from = inr (later is new.from);
    })
    by new was false is = rw is (record {
      first = was.first;
      none = or_from (is_older v (oldest u vs)) (list_any (λ x. is_older x (oldest u vs)) vs) (still is was.from) was.none;
      from = was.from;
    })

-- known transactions of which none is older than the other are one
sites_same : (t u : Txn) → IsFoundByBits t → IsFoundByBits u → same_numbers t.sites u.sites ≡ (bits_of t.sites == bits_of u.sites)
sites_same t u kt ku = equal_tests (same_numbers t.sites u.sites) (bits_of t.sites == bits_of u.sites)
    (λ is. eq-eqb (bits_of t.sites) (bits_of u.sites) (ap bits_of (same_numbers_eq t.sites u.sites is)))
    (λ is. subst (λ (s : List ℕ). same_numbers t.sites s ≡ true) (sym kt ∙ ap sites_of (eqb-true (bits_of t.sites) (bits_of u.sites) is) ∙ ku) (same_numbers_refl t.sites))

last_of : (a b c : Bool) → a ≡ false → b ≡ false → (a || b || c) ≡ true → c ≡ true
last_of false false c na nb any = any
last_of true b c na nb any = absurd (true≢false na)
last_of false true c na nb any = absurd (true≢false nb)

one_known : (t u : Txn) → IsFoundByBits t → IsFoundByBits u → is_older t u ≡ false → is_older u t ≡ false → t ≡ u
one_known t u kt ku not_so other = same_is t u (last_of (is_older t u) (is_older u t) (same_txn t u) not_so other (older_total t u (sites_same t u kt ku)))

-- what no test finds is not one that it holds of
member : (p : Txn → Bool) (t : Txn) (vs : List Txn) → list_any (same_txn t) vs ≡ true → list_any p vs ≡ false → p t ≡ false
member p t [] is none = absurd (true≢false (sym is))
member p t (v ∷ vs) is none = by (member p t vs) (same_txn t v) refl
  where
    parts : (p v ≡ false) × (list_any p vs ≡ false)
    parts = or_parts (p v) (list_any p vs) none

    by : (list_any (same_txn t) vs ≡ true → list_any p vs ≡ false → p t ≡ false) → (b : Bool) → same_txn t v ≡ b → p t ≡ false
    by more true same = ap p (same_is t v same) ∙ parts.0
    by more false same = more (sym (ap (λ (b : Bool). b || list_any (same_txn t) vs) same) ∙ is) parts.1

-- a known one among these
abbrev Among : List Txn → Txn → Type 0
Among vs t = IsFoundByBits t × (list_any (same_txn t) vs ≡ true)

each_in : (vs ws : List Txn) → ((t : Txn) → list_any (same_txn t) vs ≡ true → list_any (same_txn t) ws ≡ true) → Each (λ t. list_any (same_txn t) ws ≡ true) vs
each_in [] ws to = tt
each_in (v ∷ vs) ws to = (
  to v (or_left (same_txn v v) (list_any (same_txn v) vs) (same_self v)),
  each_in vs ws (λ t is. to t (or_right (same_txn t v) (list_any (same_txn t) vs) is)),
)

each_among : (vs : List Txn) → Each IsFoundByBits vs → Each (Among vs) vs
each_among vs known = each-both IsFoundByBits (λ t. list_any (same_txn t) vs ≡ true) vs known (each_in vs vs (λ t is. is))

-- the oldest of these behind a first one, which may be any
turned : (u : Txn) (vs ws : List Txn) → SameFound vs ws → Each IsFoundByBits vs → Each IsFoundByBits ws → oldest u vs ≡ oldest u ws
turned u vs ws same kv kw = by one.from two.from
  where
    r : Txn
    r = oldest u vs

    q : Txn
    q = oldest u ws

    one : IsOldest (Among vs) u vs r
    one = finds (Among vs) u vs (each_among vs kv)

    two : IsOldest (Among ws) u ws q
    two = finds (Among ws) u ws (each_among ws kw)

    not_one : list_any (same_txn q) ws ≡ true → is_older q r ≡ false
    not_one is = member (λ v. is_older v r) q vs (same (same_txn q) ∙ is) one.none

    not_two : list_any (same_txn r) vs ≡ true → is_older r q ≡ false
    not_two is = member (λ v. is_older v q) r ws (sym (same (same_txn r)) ∙ is) two.none

    by : (r ≡ u) ⊎ (Among vs r × (is_older r u ≡ true)) → (q ≡ u) ⊎ (Among ws q × (is_older q u ≡ true)) → r ≡ q
    by (inl e) (inl f) = e ∙ sym f
    by (inl e) (inr p) = absurd (true≢false (sym p.1 ∙ ap (is_older q) (sym e) ∙ not_one p.0.1))
    by (inr p) (inl f) = absurd (true≢false (sym p.1 ∙ ap (is_older r) (sym f) ∙ not_two p.0.1))
    by (inr p) (inr o) = one_known r q p.0.0 o.0.0 (not_two p.0.1) (not_one o.0.1)

-- the oldest so far, with one more
abbrev pub older_of : Option Txn → Txn → Option Txn
older_of None v = Some v
older_of (Some u) v = Some (if is_older v u then v else u)

abbrev pub oldest_of : Option Txn → List Txn → Option Txn
oldest_of o vs = fold older_of o vs

pub oldest_is : (u : Txn) (vs : List Txn) → oldest_of (Some u) vs ≡ Some (oldest u vs)
oldest_is u [] = refl
oldest_is u (v ∷ vs) = oldest_is (if is_older v u then v else u) vs

-- the oldest of all is a known one among them, and none of them is older
record IsLeast (vs : List Txn) (r : Txn) : Type 0 where
  among : Among vs r
  none : list_any (λ v. is_older v r) vs ≡ false

least : (v : Txn) (vs : List Txn) → Each IsFoundByBits (v ∷ vs) → IsLeast (v ∷ vs) (oldest v vs)
least v vs known = record {
  among = by is.from;
  none = or_from (is_older v (oldest v vs)) (list_any (λ x. is_older x (oldest v vs)) vs) is.first is.none;
}
  where
    each : Each (Among (v ∷ vs)) (v ∷ vs)
    each = each_among (v ∷ vs) known

    is : IsOldest (Among (v ∷ vs)) v vs (oldest v vs)
    is = finds (Among (v ∷ vs)) v vs each.1

    by : ((oldest v vs ≡ v) ⊎ (Among (v ∷ vs) (oldest v vs) × (is_older (oldest v vs) v ≡ true))) → Among (v ∷ vs) (oldest v vs)
    by (inl e) = subst (Among (v ∷ vs)) (sym e) each.0
    by (inr p) = p.0

one_least : (vs ws : List Txn) (r q : Txn) → SameFound vs ws → IsLeast vs r → IsLeast ws q → r ≡ q
one_least vs ws r q same one two = one_known r q one.among.0 two.among.0
    (member (λ v. is_older v q) r ws (sym (same (same_txn r)) ∙ one.among.1) two.none)
    (member (λ v. is_older v r) q vs (same (same_txn q) ∙ two.among.1) one.none)

-- so the oldest behind those before is the same, whatever order these stand in
pub oldest_turned : (o : Option Txn) (vs ws : List Txn) → SameFound vs ws → Each IsFoundByBits vs → Each IsFoundByBits ws → oldest_of o vs ≡ oldest_of o ws
oldest_turned (Some u) vs ws same kv kw = oldest_is u vs ∙ ap (λ (t : Txn). Some t) (turned u vs ws same kv kw) ∙ sym (oldest_is u ws)
oldest_turned None [] [] same kv kw = refl
oldest_turned None [] (w ∷ ws) same kv kw = absurd (true≢false (sym (same (λ t. true))))
oldest_turned None (v ∷ vs) [] same kv kw = absurd (true≢false (same (λ t. true)))
oldest_turned None (v ∷ vs) (w ∷ ws) same kv kw =
    oldest_is v vs
    ∙ ap (λ (t : Txn). Some t) (one_least (v ∷ vs) (w ∷ ws) (oldest v vs) (oldest w ws) same (least v vs kv) (least w ws kw))
    ∙ sym (oldest_is w ws)
