-- The marks that a pass puts are its own.
use Rattle.std.proofs.Common.{◌≡◌, ◌==◌, ◌||◌, ◌≤◌, ◌<◌, ℕ, zero, suc, true, false, List, [], ◌∷◌, ◌++◌, append-nil, length, ◌∙◌, ap, sym, subst, refl, arith, eqb-true, eq-eqb}
use Rattle.std.specs.Prelude.{All, Result, Ok, Err, IfOk, OnOk, OnErr}
use Rattle.std.proofs.lemmas.Bool.{ne_eqb}
use Rattle.std.proofs.lemmas.List.Elements.{All-nil, All-cons, All-head, All-tail}
use Rattle.e3_turn.specs.Chronicles.{count_of, ExtendsByOwners, IsOwn}
use Rattle.e3_types.specs.declared.entries.Entry.{Entry}
use Rattle.e3_types.specs.declared.messages.Packet.{Packet}
use Rattle.e3_laws.specs.local.Others.{numbered_on}
use Rattle.e3_wire.specs.Claims.{DriversMayPut, HasOwner}
use Rattle.e3_wire.specs.declared.fault.WireFault.{WireFault}
use Rattle.e3_wire.specs.declared.marks.Mark.{Mark}
use Rattle.e3_wire.specs.declared.marks.Mark.TheVariants as mark
use Rattle.e3_wire.specs.Marks.{belongs, entries_of, places_for}

-- one mark more, or none
one_more : (last : ℕ) (owners : List ℕ) (seen chronicle now : List Mark) (m : Mark) → IsOwn belongs last owners m → seen ≡ chronicle → now ≡ chronicle ++ m ∷ [] →
    ExtendsByOwners belongs last owners seen now
one_more last owners seen chronicle now m own same is =
    (m ∷ [], is ∙ ap (λ l. l ++ m ∷ []) (sym same), All-cons (IsOwn belongs last owners) m [] own (All-nil (IsOwn belongs last owners)))

pub no_more : (last : ℕ) (owners : List ℕ) (seen chronicle now : List Mark) → seen ≡ chronicle → now ≡ chronicle → ExtendsByOwners belongs last owners seen now
no_more last owners seen chronicle now same is = ([], is ∙ sym same ∙ sym (append-nil seen), All-nil (IsOwn belongs last owners))

-- an entry of a site
pub own_entry : (last : ℕ) (owners : List ℕ) (e : Entry) → 1 ≤ e.owner → 0 < count_of e.owner owners → IsOwn belongs last owners (mark.Entered e)
own_entry last owners e some has = ((e.owner, has, here), λ o low b. there o b)
  where
    none : (e.owner == 0) ≡ false
    none = ne_eqb e.owner 0 (λ same. omega (arith, some, same))

    here : (e.owner == 0 || e.owner == e.owner) ≡ true
    here = rw (none, eq-eqb e.owner e.owner refl) refl

    there : (o : ℕ) → (e.owner == 0 || e.owner == o) ≡ true → 0 < count_of o owners
    there o b =
        let one : (e.owner == o) ≡ true = sym (rw none refl) ∙ b in
        let P : ℕ → Type 0 = λ k. 0 < count_of k owners in
        subst P (eqb-true e.owner o one) has

pub grew_entry : (last : ℕ) (owners : List ℕ) (seen chronicle now : List Mark) (e : Entry) → 1 ≤ e.owner → 0 < count_of e.owner owners → seen ≡ chronicle →
    now ≡ chronicle ++ mark.Entered (numbered_on (entries_of chronicle) e) ∷ [] → ExtendsByOwners belongs last owners seen now
grew_entry last owners seen chronicle now e some has same is =
    one_more last owners seen chronicle now (mark.Entered (numbered_on (entries_of chronicle) e)) (own_entry last owners (numbered_on (entries_of chronicle) e) some has) same is

pub own_place : (last : ℕ) (owners : List ℕ) (o outs : ℕ) → 0 < count_of o owners → IsOwn belongs last owners (mark.Place o outs)
own_place last owners o outs has =
    ((o, has, eq-eqb o o refl), λ p low b. (let P : ℕ → Type 0 = λ k. 0 < count_of k owners in subst P (eqb-true o p b) has))

pub grew_place : (last : ℕ) (owners : List ℕ) (seen chronicle now : List Mark) (o outs : ℕ) (r : Result (Unit {0}) WireFault) → 0 < count_of o owners → seen ≡ chronicle →
    OnOk r (now ≡ chronicle ++ mark.Place o outs ∷ []) → OnErr r (now ≡ chronicle) → ExtendsByOwners belongs last owners seen now
grew_place last owners seen chronicle now o outs (Ok a) has same ok err = one_more last owners seen chronicle now (mark.Place o outs) (own_place last owners o outs has) same ok
grew_place last owners seen chronicle now o outs (Err f) has same ok err = no_more last owners seen chronicle now same err

own_places : (last : ℕ) (owners : List ℕ) (o n : ℕ) → 0 < count_of o owners → All (IsOwn belongs last owners) (places_for o n)
own_places last owners o zero has = All-nil (IsOwn belongs last owners)
own_places last owners o (suc n) has = All-cons (IsOwn belongs last owners) (mark.Place o 0) (places_for o n) (own_place last owners o 0 has) (own_places last owners o n has)

pub own_freed : (last : ℕ) (owners : List ℕ) (o : ℕ) → 0 < count_of o owners → IsOwn belongs last owners (mark.Freed o)
own_freed last owners o has =
    ((o, has, eq-eqb o o refl), λ p low b. (let P : ℕ → Type 0 = λ k. 0 < count_of k owners in subst P (eqb-true o p b) has))

-- places for packets that are shown, or none
pub grew_places : (last : ℕ) (owners : List ℕ) (seen chronicle now : List Mark) (o : ℕ) (first : List Packet) (r : Result (List Packet) WireFault) → 0 < count_of o owners → seen ≡ chronicle →
    IfOk r (λ few. (few ≡ first) × (now ≡ chronicle ++ places_for o (length few))) → OnErr r (now ≡ chronicle) → ExtendsByOwners belongs last owners seen now
grew_places last owners seen chronicle now o first (Ok few) has same ok err =
    (places_for o (length few), ok.1 ∙ ap (λ l. l ++ places_for o (length few)) (sym same), own_places last owners o (length few) has)
grew_places last owners seen chronicle now o first (Err f) has same ok err = no_more last owners seen chronicle now same err

-- the driver's own
own_all : (last : ℕ) (owners : List ℕ) (m : Mark) → ((o : ℕ) → o ≤ last → 0 < count_of o owners) → HasOwner last m → IsOwn belongs last owners m
own_all last owners m all has = ((has.0, all has.0 has.1, has.2), λ o low b. all o low)

owns_all : (last : ℕ) (owners : List ℕ) (more : List Mark) → ((o : ℕ) → o ≤ last → 0 < count_of o owners) → All (HasOwner last) more → All (IsOwn belongs last owners) more
owns_all last owners [] all has = All-nil (IsOwn belongs last owners)
owns_all last owners (m ∷ more) all has =
    All-cons (IsOwn belongs last owners) m more (own_all last owners m all (All-head (HasOwner last) m more has)) (owns_all last owners more all (All-tail (HasOwner last) m more has))

pub drivers_may_put : DriversMayPut
drivers_may_put p marks more all is has = (more, is, owns_all p.me.0.last p.me.0.owners more all has)

pub grew_drivers : (last : ℕ) (owners : List ℕ) (seen chronicle now : List Mark) (e : Entry) (r : Result (Unit {0}) WireFault) → ((o : ℕ) → o ≤ last → 0 < count_of o owners) → e.owner ≡ 0 → seen ≡ chronicle →
    OnOk r (now ≡ chronicle ++ mark.Entered e ∷ []) → OnErr r (now ≡ chronicle) → ExtendsByOwners belongs last owners seen now
grew_drivers last owners seen chronicle now e (Ok a) all zeroth same ok err =
    one_more last owners seen chronicle now (mark.Entered e) (own_all last owners (mark.Entered e) all (0, omega arith, rw zeroth refl)) same ok
grew_drivers last owners seen chronicle now e (Err f) all zeroth same ok err = no_more last owners seen chronicle now same err
