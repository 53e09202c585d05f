-- What is added to a step keeps what its messages, packets, records and events meet.
use Rattle.std.proofs.Common.{◌≡◌, ◌==◌, ℕ, Bool, true, false, List, refl, sym, subst, eqb-true, eq-eqb}
use Rattle.std.specs.List.{AllByRecursion as Each}
use Rattle.std.proofs.lemmas.Bool.{false_from_ne_true}
use Rattle.e3_types.specs.declared.messages.Message.{Message}
use Rattle.e3_types.specs.declared.messages.Packet.{Packet}
use Rattle.e3_types.specs.declared.transactions.Txn.{Txn}
use Rattle.e3_types.specs.Sets.{has_site}
use Rattle.e3_world.specs.declared.lives.Asked.{Asked}
use Rattle.e3_world.specs.declared.lives.At.{At}
use Rattle.e3_world.specs.declared.lives.Made.{Made}
use Rattle.e3_world.specs.Making.{and_send}
use Rattle.e3_world.specs.Logs.{key_of}
use Rattle.e3_world.specs.Orderly.{is_among}
use Rattle.e3_laws.specs.steps.Bounds.{MayHear, GoesBetween, SuitsLog, BeginsOwn}
use Rattle.e3_laws.proofs.steps.Each.{each-push}
use Rattle.e3_laws.proofs.steps.Adding.{Preserves}

-- the packet is this site's, and goes between sites of its transaction
pub record Goes (weights : List ℕ) (site : ℕ) (packet : Packet) : Type 0 where
  pub own : packet.«from» ≡ site
  pub between : GoesBetween weights packet

-- all that a step made so far meets its bounds
pub record Keeps (a : At) (made : Made) : Type 0 where
  pub own : Each (MayHear a.weights a.site a.site) made.own
  pub outs : Each (Goes a.weights a.site) made.outs
  pub records : Each (SuitsLog a.weights a.site) made.records
  pub told : Each (BeginsOwn a.weights a.site) made.told

-- the site is one of the transaction's, all of whose sites have a weight
abbrev pub Knows : At → Txn → Type 0
Knows a t = is_among a.site a.weights t.sites ≡ true

-- an operation that came to the site: it has a number, is on a key of the site, and the coordinator is a site of its
pub record AskedHere (weights : List ℕ) (site : ℕ) (q : Asked) : Type 0 where
  pub known : is_among site weights q.txn.sites ≡ true
  pub home : has_site q.txn.sites q.txn.site ≡ true
  pub here : (key_of q.op).site ≡ site

turned : (n m : ℕ) → (n == m) ≡ false → (m == n) ≡ false
turned n m is = false_from_ne_true (m == n) (λ same. absurd (let both : (n == m) ≡ true = eq-eqb n m (sym (eqb-true m n same)) in cc))

-- what may be sent to a site
abbrev pub Sends : At → ℕ → Message → Type 0
Sends a to m = MayHear a.weights to a.site m

-- a message to a site that may be this one
sent : (a : At) (to : ℕ) (m : Message) (made : Made) → MayHear a.weights to a.site m → Keeps a made → Keeps a (and_send a to m made)
sent a to m made may k = by (to == a.site) refl
  where
    by : (b : Bool) → (to == a.site) ≡ b → Keeps a (and_send a to m made)
    by true is = rw is (record {
      own = each-push _ made.own m k.own (let P : ℕ → Type 0 = λ s. MayHear a.weights s a.site m in subst P (eqb-true to a.site is) may);
      outs = k.outs;
      records = k.records;
      told = k.told;
    })
    by false is = rw is (record {
      own = k.own;
      outs = each-push _ made.outs _ k.outs (record { own = refl; between = record { heard = may; other = turned to a.site is } });
      records = k.records;
      told = k.told;
    })

pub kept : (a : At) → Preserves a (SuitsLog a.weights a.site) (BeginsOwn a.weights a.site) (Sends a) (Keeps a)
kept a = record {
  records = λ r made this k. record { own = k.own; outs = k.outs; records = each-push _ made.records r k.records this; told = k.told };
  tells = λ e made this k. record { own = k.own; outs = k.outs; records = k.records; told = each-push _ made.told e k.told this };
  sends = λ to m made may k. sent a to m made may k;
}
