-- Values of keys through operations.
use Rattle.std.proofs.Common.{◌≡◌, ◌⊎◌, inl, inr, Bool, true, false, cond, ◌&&◌, ◌||◌, List, [], ◌∷◌, refl, sym, ap, ◌∙◌}
use Rattle.std.proofs.lemmas.Bool.{true≢false}
use Rattle.e3_laws.proofs.serial.Lists.Entries.{Name, same_name}
use Rattle.e3_laws.proofs.serial.Lists.Names.{same_name-true}
use Rattle.e3_laws.proofs.serial.Lists.Entries.{In}
use Rattle.e3_laws.proofs.serial.Lists.Entries.{name_of, changes, effect, through, writes, Conflict}
use Rattle.e3_types.specs.declared.transactions.Answer.{Answer}
use Rattle.e3_types.specs.declared.transactions.Op.{Op}
use Rattle.e3_types.specs.declared.transactions.Op.TheVariants.{Read}
use Rattle.e3_types.specs.declared.transactions.Op.TheVariants.{Write}
use Rattle.e3_types.specs.declared.transactions.NumOp.{NumOp}

-- an operation that changes nothing leaves the value
pub still : (o : Op) (v : Answer) → changes o ≡ false → effect o v ≡ v
still (Read n) v h = refl
still (Write key w) v h = absurd (true≢false h)

pub untouched : (n : Name) (ds : List NumOp) (v : Answer) → writes n ds ≡ false → through ds n v ≡ v
untouched n [] v h = refl
untouched n (d ∷ ds) v h = go (same_name (name_of d.op) n) (changes d.op) refl h (untouched n ds)
  where
    go : (b c : Bool) → changes d.op ≡ c → ((b && c) || writes n ds) ≡ false → ((w : Answer) → writes n ds ≡ false → through ds n w ≡ w) → through ds n (cond b (effect d.op v) v) ≡ v
    go true true q k ih = absurd (true≢false k)
    go true false q k ih = ap (λ w. through ds n w) (still d.op v q) ∙ ih v k
    go false c q k ih = ih v k

-- one of the operations that changes the key
pub record Writer (n : Name) (ds : List NumOp) : Type 0 where
  pub one : NumOp
  pub one_in : In one ds
  pub name : name_of one.op ≡ n
  pub change : changes one.op ≡ true

pub writes_in : (n : Name) (ds : List NumOp) → writes n ds ≡ true → Writer n ds
writes_in n [] h = absurd (true≢false (sym h))
writes_in n (d ∷ ds) h = go (same_name (name_of d.op) n) (changes d.op) refl refl h (writes_in n ds)
  where
    more : Writer n ds → Writer n (d ∷ ds)
    more w = record { one = w.one; one_in = inr w.one_in; name = w.name; change = w.change }

    go : (b c : Bool) → same_name (name_of d.op) n ≡ b → changes d.op ≡ c → ((b && c) || writes n ds) ≡ true → (writes n ds ≡ true → Writer n ds) → Writer n (d ∷ ds)
    go true true p q k ih = record { one = d; one_in = inl refl; name = same_name-true (name_of d.op) n p; change = q }
    go true false p q k ih = more (ih k)
    go false c p q k ih = more (ih k)

pub flip : {xs ys : List NumOp} → Conflict xs ys → Conflict ys xs
flip c = record { one = c.other; other = c.one; one_in = c.other_in; other_in = c.one_in; clash = record { same_name = sym c.clash.same_name; one_changes = Rattle.std.proofs.Common.⊎_elim (λ a. inr a) (λ b. inl b) c.clash.one_changes } }
