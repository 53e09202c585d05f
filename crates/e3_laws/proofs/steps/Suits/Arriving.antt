-- What came to a site, what it did, and what it gathers, where all its inputs suit it.
use Rattle.std.proofs.Common.{◌≡◌, ◌==◌, ◌++◌, ◌∷◌, [], ℕ, suc, Bool, true, false, List, filter, Option, Some, None, refl, sym, subst, eqb-true, if◌then◌else◌, fold, length, map}
use Rattle.std.specs.List.{AllByRecursion as Each}
use Rattle.e3_types.specs.declared.entries.Input.{Input}
use Rattle.e3_types.specs.declared.entries.Input.TheVariants as input
use Rattle.e3_types.specs.declared.messages.Message.{Message}
use Rattle.e3_types.specs.declared.messages.Message.TheVariants as msg
use Rattle.e3_types.specs.declared.messages.Packet.{Packet}
use Rattle.e3_types.specs.declared.transactions.Answer.{Answer}
use Rattle.e3_types.specs.declared.transactions.Op.{Op}
use Rattle.e3_types.specs.declared.transactions.Txn.{Txn}
use Rattle.e3_types.specs.Same.{same_txn}
use Rattle.e3_types.specs.Sets.{has_site}
use Rattle.e3_world.specs.declared.lives.Asked.{Asked}
use Rattle.e3_world.specs.declared.lives.Moment.{Moment}
use Rattle.e3_world.specs.Logs.{key_of}
use Rattle.e3_world.specs.Operations.{Arrived, taken_up, and_arrived, is_fresh, arrived_by, arrivals, issued, issued_in, answers, performed_by, done}
use Rattle.e3_laws.specs.steps.Bounds.{MayHear, Suits, IsHere}
use Rattle.e3_laws.proofs.steps.Suits.Among.{among_self}
use Rattle.e3_laws.proofs.steps.Each.{each-push, each-filter, each-flat, each-map, IfAny}
use Rattle.e3_laws.proofs.steps.Suits.Keeping.{AskedHere}

-- all these steps took inputs that suit the site
abbrev pub AllSuit : List ℕ → ℕ → List Moment → Type 0
AllSuit weights site steps = Each (λ m. Suits weights site m.input) steps

taken_here : (weights : List ℕ) (site : ℕ) (steps : List Moment) (m : Moment) → Suits weights site m.input → IfAny (AskedHere weights site) (taken_up site steps m)
taken_here weights site steps m suits = by m.input refl suits
  where
    said : (x : Message) (p : Packet) → m.input ≡ input.Deliver p → p.msg ≡ x → MayHear weights site p.«from» x → IfAny (AskedHere weights site) (taken_up site steps m)
    said (msg.Do t n op) p is same fit = rw (is, same) (record {
      known = fit.among;
      home = (let P : ℕ → Type 0 = λ s. has_site t.sites s ≡ true in subst P fit.asked.0 fit.sender);
      here = fit.asked.1;
    })
    said x p is same fit = rw (is, same) tt

    own : (t : Txn) (op : Op) (l : List Op) → m.input ≡ input.Do t op → issued_in t (input.Do t op) m.told ≡ l → Suits weights site (input.Do t op) →
        IfAny (AskedHere weights site) (taken_up site steps m)
    own t op [] is some fit = rw (is, some) tt
    own t op (o ∷ os) is some fit = rw (is, some) (here ((key_of op).site == site) refl)
      where
        here : (b : Bool) → ((key_of op).site == site) ≡ b → IfAny (AskedHere weights site)
            (if (key_of op).site == site then Some (record { txn = t; n = suc (length (issued t steps)); op = op }) else None)
        here true at = rw at (record {
          known = fit.0;
          home = (let P : ℕ → Type 0 = λ s. has_site t.sites s ≡ true in subst P (sym fit.1) (among_self weights site t.sites fit.0));
          here = eqb-true (key_of op).site site at;
        })
        here false at = rw at tt

    by : (i : Input) → m.input ≡ i → Suits weights site i → IfAny (AskedHere weights site) (taken_up site steps m)
    by (input.Deliver p) is fit = said p.msg p is refl fit.2
    by (input.Do t op) is fit = own t op (issued_in t (input.Do t op) m.told) is refl fit
    by i is fit = rw is tt

arrived_all : (weights : List ℕ) (site : ℕ) (asked : List Asked) (m : Moment) (o : Option Asked) → Each (AskedHere weights site) asked →
    IfAny (AskedHere weights site) o → Each (AskedHere weights site) (and_arrived asked m o)
arrived_all weights site asked m None all this = all
arrived_all weights site asked m (Some q) all this = by (is_fresh asked m q)
  where
    by : (b : Bool) → Each (AskedHere weights site) (if b then asked ++ q ∷ [] else asked)
    by true = each-push (AskedHere weights site) asked q all this
    by false = all

fold_here : (weights : List ℕ) (site : ℕ) (was : Arrived) (steps : List Moment) → Each (AskedHere weights site) was.asked → AllSuit weights site steps →
    Each (AskedHere weights site) (fold (arrived_by site) was steps).asked
fold_here weights site was [] all suit = all
fold_here weights site was (m ∷ steps) all suit = fold_here weights site (arrived_by site was m) steps
    (arrived_all weights site was.asked m (taken_up site was.steps m) all (taken_here weights site was.steps m suit.0)) suit.1

-- all that came to the site is on its keys
pub arrivals_here : (weights : List ℕ) (site : ℕ) (steps : List Moment) → AllSuit weights site steps → Each (AskedHere weights site) (arrivals site steps)
arrivals_here weights site steps suit = fold_here weights site (record { steps = []; asked = [] }) steps tt suit

performed_here : (site : ℕ) (steps : List Moment) (q : Asked) → (key_of q.op).site ≡ site →
    Each (λ p. (key_of p.op).site ≡ site) (performed_by steps q)
performed_here site steps q here = by (answers q steps) refl
  where
    by : (l : List Answer) → answers q steps ≡ l → Each (λ p. (key_of p.op).site ≡ site) (performed_by steps q)
    by [] is = rw is tt
    by (x ∷ xs) is = rw is (here, tt)

-- and so is all that it has done
pub done_here : (weights : List ℕ) (site : ℕ) (t : Txn) (steps : List Moment) → AllSuit weights site steps →
    Each (IsHere site) (map (λ p. record { n = p.n; op = p.op }) (done site t steps))
done_here weights site t steps suit =
    each-map (IsHere site) (λ p. record { n = p.n; op = p.op }) (done site t steps)
    (each-flat (AskedHere weights site) (λ p. (key_of p.op).site ≡ site) (performed_by steps) (λ q k. performed_here site steps q k.here)
    (filter (λ q. same_txn t q.txn) (arrivals site steps))
    (each-filter (AskedHere weights site) (λ q. same_txn t q.txn) (arrivals site steps) (arrivals_here weights site steps suit)))
