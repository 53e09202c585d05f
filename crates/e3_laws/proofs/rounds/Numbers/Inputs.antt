-- What one step does to the bound: it rises by one where the site joins an election of its own, and then nothing is awaited.
use Rattle.std.proofs.Common.{◌≡◌, ◌==◌, ◌+◌, ◌≤◌, ◌++◌, ◌∷◌, [], ℕ, suc, max, Bool, true, false, List, length, length-append, append-nil, Option, Some, None, refl, ap, sym, subst, ◌∙◌, if◌then◌else◌, nat_lt, nat_le, arith}
use Rattle.std.proofs.lemmas.Grind.{common_steps}
use Rattle.e3_types.specs.declared.entries.Input.{Input}
use Rattle.e3_types.specs.declared.entries.Input.TheVariants as input
use Rattle.e3_types.specs.declared.entries.Told.{Told}
use Rattle.e3_types.specs.declared.messages.Message.{Message}
use Rattle.e3_types.specs.declared.messages.Message.TheVariants as msg
use Rattle.e3_types.specs.declared.messages.Packet.{Packet}
use Rattle.e3_types.specs.declared.records.Record.{Record}
use Rattle.e3_types.specs.declared.transactions.Call.{Call}
use Rattle.e3_types.specs.declared.transactions.Txn.{Txn}
use Rattle.e3_types.specs.Same.{same_txn}
use Rattle.e3_world.specs.Gatherings.{Election, Elections}
use Rattle.e3_world.specs.declared.lives.At.{At}
use Rattle.e3_world.specs.declared.lives.Life.{Life}
use Rattle.e3_world.specs.declared.lives.Made.{Made}
use Rattle.e3_world.specs.declared.lives.Moment.{Moment}
use Rattle.e3_world.specs.Elections.{after_heard, all_heard, begun, election_by, election_in_progress, election_with, ends_election, greatest_heard, hear, next_call}
use Rattle.e3_world.specs.Logs.{last_elected}
use Rattle.e3_world.specs.Making.{nothing, and_cast, elected_now}
use Rattle.e3_world.specs.Messages.{on_message}
use Rattle.e3_world.specs.Steps.{on_input, step_at}
use Rattle.e3_laws.proofs.rounds.Numbers.Hearing.{After, Fits, after_is, awaits, choice_fits, heard_is, next_low, same_fits}
use Rattle.e3_laws.proofs.rounds.Numbers.Handling.{is_call, low_call, low_join, low_on_elected, low_on_last, low_quiet, low_settled}
use Rattle.e3_laws.proofs.rounds.Numbers.Low.{Low, is_low, is_quiet, low_cast, low_message, low_nothing, low_out}
use Rattle.e3_laws.proofs.steps.Tests.{le_is, same_is}

-- an Elect of the transaction counts
abbrev pub elects_of : Txn → Input → ℕ
elects_of t (input.Elect u group) = if same_txn t u then 1 else 0
elects_of t _ = 0

-- a packet that is delivered keeps the bound, and came from another site
abbrev pub InputLow : Txn → ℕ → ℕ → Input → Type 0
InputLow t b s (input.Deliver p) = (low_message t b p.msg ≡ true) × ((p.«from» == s) ≡ false)
InputLow t b s i = Unit {0}

-- the place of a step, and its moment
abbrev pub at : List ℕ → ℕ → Life → Input → At
at w s life i = record { weights = w; site = s; life = life; input = i }

abbrev pub moment : Life → Input → List Record → List Packet → List Told → Moment
moment life i rs outs events = record { before = life.log; input = i; records = rs; outs = outs; told = events }

-- what a step makes keeps a bound that may be greater, and the election behind it does, within the limit
pub record Goes (t : Txn) (b limit : ℕ) (made : Made) (now : Option Election) : Type 0 where
  pub top : ℕ
  pub above : b ≤ top
  pub low : Low t top made
  pub fits : Fits top limit now

whole : (t : Txn) (b : ℕ) (a : At) → Low t b (on_input a a.input nothing) → Low t b (step_at a)
whole t b a k = low_settled t b a (on_input a a.input nothing) k

-- the election in progress of the transaction at a place
abbrev pub now_at : ℕ → Txn → Life → Option Election
now_at s t life = election_in_progress s life.inc t life.steps

-- an input that is neither an Elect nor a delivery leaves the election, or ends it
stays : (t : Txn) (b limit s : ℕ) (life : Life) (was : Elections) (i : Input) (rs : List Record) (outs : List Packet) (events : List Told) (made : Made) →
    Fits b limit was.now → (election_by s life.inc t was (moment life i rs outs events)).now ≡ (if ends_election t (moment life i rs outs events) then None else was.now) → Low t b made →
    Goes t b limit made (election_by s life.inc t was (moment life i rs outs events)).now
stays t b limit s life was i rs outs events made fits is low = record {
  top = b;
  above = omega arith;
  low = low;
  fits = subst (Fits b limit) (sym is) (choice_fits b limit (ends_election t (moment life i rs outs events)) was.now fits);
}

other_low : (t : Txn) (b : ℕ) (u : Txn) (n : ℕ) → same_txn t u ≡ false → is_low t b u n ≡ true
other_low t b u n other = rw other refl

same_low : (t : Txn) (b : ℕ) (u : Txn) (n : ℕ) → nat_le n b ≡ true → is_low t b u n ≡ true
same_low t b u n less = by (same_txn t u) refl
  where
    by : (c : Bool) → same_txn t u ≡ c → is_low t b u n ≡ true
    by true is = rw (is, less) refl
    by false is = rw is refl

from_low : (t : Txn) (b : ℕ) (u : Txn) (n : ℕ) → same_txn t u ≡ true → is_low t b u n ≡ true → nat_le n b ≡ true
from_low t b u n same low = (let here : is_low t b u n ≡ nat_le n b = rw same refl in sym here) ∙ low

suc_low : (n b top : ℕ) → nat_le n b ≡ true → top ≡ suc b → nat_le (suc n) top ≡ true
suc_low n b top less is = grind (arith, common_steps, less, is)

-- an Elect: where it is of this transaction, an election of it begins
goes_elect : (t : Txn) (b limit : ℕ) (w : List ℕ) (s : ℕ) (life : Life) (was : Elections) (u : Txn) (group : List ℕ) (rs : List Record) (outs : List Packet) (events : List Told) →
    last_elected t life.log ≤ b → Fits b limit was.now →
    Goes t b (limit + elects_of t (input.Elect u group)) (step_at (at w s life (input.Elect u group))) (election_by s life.inc t was (moment life (input.Elect u group) rs outs events)).now
goes_elect t b limit w s life was u group rs outs events elected fits = by (same_txn t u) refl
  where
    a : At
    a = at w s life (input.Elect u group)

    m : Moment
    m = moment life (input.Elect u group) rs outs events

    e : Election
    e = begun s (record { inc = life.inc; seq = suc was.calls }) group (last_elected t life.log)

    asked : (top : ℕ) → Low t top (and_cast a group (msg.Ask u (next_call life.inc life.steps)) nothing)
    asked top = low_cast t top a group (msg.Ask u (next_call life.inc life.steps)) nothing refl (low_nothing t top)

    begun_low : nat_le (max 0 (last_elected t life.log)) b ≡ true
    begun_low = one (last_elected t life.log) elected
      where
        one : (n : ℕ) → n ≤ b → nat_le (max 0 n) b ≡ true
        one n less = grind (arith, common_steps, less)

    less_all : b ≤ limit
    less_all = let less : b + awaits was.now ≤ limit = fits.within in omega (arith, less)

    first : After b (limit + 1) e (after_heard s t m e)
    first = after_is s t m e b (limit + 1) begun_low (λ all. omega (arith, less_all)) (λ part. one (nat_lt 1 (length group)))
      where
        one : (c : Bool) → b + (if c then 1 else 0) ≤ limit + 1
        one true = omega (arith, less_all)
        one false = omega (arith, less_all)

    own_is : same_txn t u ≡ true → elected_now a u nothing ≡ last_elected t life.log
    own_is same = ap (last_elected u) (append-nil life.log) ∙ ap (λ x. last_elected x life.log) (sym (same_is t u same))

    ends : (c : Bool) → same_txn t u ≡ c → Fits first.top (limit + 1) (if ends_election t m then None else after_heard s t m e)
    ends c is = choice_fits first.top (limit + 1) (ends_election t m) (after_heard s t m e) first.fits

    by : (c : Bool) → same_txn t u ≡ c →
        Goes t b (limit + elects_of t (input.Elect u group)) (step_at a) (election_by s life.inc t was m).now
    by true same = record {
      top = first.top;
      above = first.above;
      low = whole t first.top a (low_join t first.top a u (begun s (next_call life.inc life.steps) group (elected_now a u nothing)) _
          (λ all. same_low t first.top u _ (suc_low _ b first.top (ap (λ n. nat_le (max 0 n) b) (own_is same) ∙ begun_low) (first.raised all))) (asked first.top));
      fits = rw same (ends true same);
    }
    by false other = record {
      top = b;
      above = omega arith;
      low = whole t b a (low_join t b a u (begun s (next_call life.inc life.steps) group (elected_now a u nothing)) _ (λ all. other_low t b u _ other) (asked b));
      fits = rw other (choice_fits b (limit + 0) (ends_election t m) was.now (record { heard = fits.heard; within = (let less : b + awaits was.now ≤ limit = fits.within in omega (arith, less)) }));
    }

-- a delivery that is no answer to a call of this transaction, by what it makes
delivered : (t : Txn) (b limit : ℕ) (w : List ℕ) (s : ℕ) (life : Life) (was : Elections) (p : Packet) (rs : List Record) (outs : List Packet) (events : List Told) →
    ((u : Txn) (call : Call) (n : ℕ) → p.msg ≡ msg.LastElected u call n → same_txn t u ≡ false) → Fits b limit was.now →
    Low t b (on_message (at w s life (input.Deliver p)) p.«from» p.msg nothing) →
    Goes t b limit (step_at (at w s life (input.Deliver p))) (election_by s life.inc t was (moment life (input.Deliver p) rs outs events)).now
delivered t b limit w s life was p rs outs events other fits low = by was.now refl fits
  where
    m : Moment
    m = moment life (input.Deliver p) rs outs events

    by : (o : Option Election) → was.now ≡ o → Fits b limit o → Goes t b limit (step_at (at w s life (input.Deliver p))) (election_by s life.inc t was m).now
    by None is kept = record {
      top = b;
      above = omega arith;
      low = whole t b (at w s life (input.Deliver p)) low;
      fits = rw is (choice_fits b limit (ends_election t m) None kept);
    }
    by (Some e) is kept = record {
      top = b;
      above = omega arith;
      low = whole t b (at w s life (input.Deliver p)) low;
      fits = rw is (choice_fits b limit (ends_election t m) (election_with s t m e p.«from» p.msg) (same_fits s t m b limit e p.«from» p.msg other kept));
    }

-- an answer to a call of this transaction
answered : (t : Txn) (b limit : ℕ) (w : List ℕ) (s : ℕ) (life : Life) (was : Elections) (p : Packet) (u : Txn) (call : Call) (n : ℕ) (rs : List Record) (outs : List Packet) (events : List Told) →
    p.msg ≡ msg.LastElected u call n → same_txn t u ≡ true → nat_le n b ≡ true → was.now ≡ now_at s t life → Fits b limit was.now →
    Goes t b limit (step_at (at w s life (input.Deliver p))) (election_by s life.inc t was (moment life (input.Deliver p) rs outs events)).now
answered t b limit w s life was p u call n rs outs events says same less gathers fits = by was.now refl fits
  where
    a : At
    a = at w s life (input.Deliver p)

    m : Moment
    m = moment life (input.Deliver p) rs outs events

    in_progress : (o : Option Election) → was.now ≡ o → now_at s u life ≡ o
    in_progress o is = ap (λ x. now_at s x life) (sym (same_is t u same)) ∙ sym gathers ∙ is

    made : (top : ℕ) →
        ((e more : Election) → now_at s u life ≡ Some e → hear e p.«from» call n ≡ Some more → all_heard more ≡ true → is_low t top u (suc (greatest_heard more)) ≡ true) →
        Low t top (step_at a)
    made top within = whole t top a (subst (λ x. Low t top (on_message a p.«from» x nothing)) (sym says) (low_on_last t top a p.«from» u call n nothing within (low_nothing t top)))

    by : (o : Option Election) → was.now ≡ o → Fits b limit o → Goes t b limit (step_at a) (election_by s life.inc t was m).now
    by None is kept = record {
      top = b;
      above = omega arith;
      low = made b (λ e more here took all. absurd (let clash : None ≡ Some e = sym (in_progress None is) ∙ here in cc));
      fits = rw is (choice_fits b limit (ends_election t m) None kept);
    }
    by (Some e) is kept = heard (hear e p.«from» call n) refl
      where
        one : (x : Election) → now_at s u life ≡ Some x → x ≡ e
        one x here = let same_one : Some x ≡ Some e = sym here ∙ in_progress (Some e) is in cc

        heard : (h : Option Election) → hear e p.«from» call n ≡ h → Goes t b limit (step_at a) (election_by s life.inc t was m).now
        heard None none = record {
          top = b;
          above = omega arith;
          low = made b (λ x more here took all. absurd (
              let gone : hear x p.«from» call n ≡ None = ap (λ y. hear y p.«from» call n) (one x here) ∙ none in
              let clash : Some more ≡ None = sym took ∙ gone in cc));
          fits = subst (Fits b limit) (sym now_is) (choice_fits b limit (ends_election t m) (Some e) kept);
        }
          where
            now_is : (election_by s life.inc t was m).now ≡ (if ends_election t m then None else Some e)
            now_is = rw (is, says, same, none) refl
        heard (Some more) took = record {
          top = first.top;
          above = first.above;
          low = made first.top (λ x y here then_took all.
              let is_more : y ≡ more = (let both : Some y ≡ Some more = sym then_took ∙ ap (λ z. hear z p.«from» call n) (one x here) ∙ took in cc) in
              same_low t first.top u _ (suc_low (greatest_heard y) b first.top (ap (λ (z : Election). nat_le (greatest_heard z) b) is_more ∙ more_low) (first.raised (ap all_heard (sym is_more) ∙ all))));
          fits = subst (Fits first.top limit) (sym now_is) (choice_fits first.top limit (ends_election t m) (after_heard s t m more) first.fits);
        }
          where
            now_is : (election_by s life.inc t was m).now ≡ (if ends_election t m then None else after_heard s t m more)
            now_is = rw (is, says, same, took) refl

            more_is : more ≡ record e { heard = e.heard ++ record { site = p.«from»; elected = n } ∷ [] }
            more_is = heard_is e more p.«from» call n took

            more_low : nat_le (greatest_heard more) b ≡ true
            more_low = ap (λ (z : Election). nat_le (greatest_heard z) b) more_is ∙ next_low e p.«from» n b kept.heard less

            long : length more.heard ≡ suc (length e.heard)
            long = ap (λ (z : Election). length z.heard) more_is ∙ length-append e.heard (record { site = p.«from»; elected = n } ∷ []) ∙ (let plus : length e.heard + 1 ≡ suc (length e.heard) = omega arith in plus)

            group_is : more.group ≡ e.group
            group_is = ap (λ (z : Election). z.group) more_is

            awaited : b + awaits (Some e) ≤ limit
            awaited = kept.within

            first : After b limit more (after_heard s t m more)
            first = after_is s t m more b limit more_low full part
              where
                room : (x y : ℕ) (k : ℕ) → (suc x == y) ≡ true → b + (if nat_lt x y then 1 else 0) ≤ k → suc b ≤ k
                room x y k is less = grind (arith, common_steps, is, less)

                still : (x y z : ℕ) (k : ℕ) → z ≡ suc x → b + (if nat_lt x y then 1 else 0) ≤ k → b + (if nat_lt z y then 1 else 0) ≤ k
                still x y z k is less = grind (arith, common_steps, is, less)

                full : all_heard more ≡ true → suc b ≤ limit
                full all = room (length e.heard) (length e.group) limit (sym (ap (λ k. k == length more.group) long ∙ ap (λ (g : List ℕ). suc (length e.heard) == length g) group_is) ∙ all) awaited

                part : all_heard more ≡ false → b + awaits (Some more) ≤ limit
                part all = subst (λ (g : List ℕ). b + (if nat_lt (length more.heard) (length g) then 1 else 0) ≤ limit) (sym group_is)
                    (still (length e.heard) (length e.group) (length more.heard) limit long awaited)

-- each message
goes_message : (t : Txn) (b limit : ℕ) (w : List ℕ) (s : ℕ) (life : Life) (was : Elections) (p : Packet) (x : Message) (rs : List Record) (outs : List Packet) (events : List Told) →
    p.msg ≡ x → last_elected t life.log ≤ b → was.now ≡ now_at s t life → Fits b limit was.now → low_message t b x ≡ true → (p.«from» == s) ≡ false →
    Goes t b limit (step_at (at w s life (input.Deliver p))) (election_by s life.inc t was (moment life (input.Deliver p) rs outs events)).now
goes_message t b limit w s life was p x rs outs events says elected gathers fits low away = by x says low (is_quiet x) refl
  where
    a : At
    a = at w s life (input.Deliver p)

    Goal : Type 0
    Goal = Goes t b limit (step_at a) (election_by s life.inc t was (moment life (input.Deliver p) rs outs events)).now

    through : (y : Message) → p.msg ≡ y → ((u : Txn) (call : Call) (n : ℕ) → y ≡ msg.LastElected u call n → same_txn t u ≡ false) → Low t b (on_message a p.«from» y nothing) → Goal
    through y is other made = delivered t b limit w s life was p rs outs events (λ u call n e. other u call n (sym is ∙ e)) fits (subst (λ z. Low t b (on_message a p.«from» z nothing)) (sym is) made)

    last : (u : Txn) (call : Call) (n : ℕ) → p.msg ≡ msg.LastElected u call n → is_low t b u n ≡ true → (c : Bool) → same_txn t u ≡ c → Goal
    last u call n is less true same = answered t b limit w s life was p u call n rs outs events is same (from_low t b u n same less) gathers fits
    last u call n is less false other = through (msg.LastElected u call n) is
        (λ v c k e. subst (λ y. same_txn t y ≡ false) (let same_one : u ≡ v = cc in same_one) other)
        (low_on_last t b a p.«from» u call n nothing (λ e more here took all. other_low t b u _ other) (low_nothing t b))

    quiet : (y : Message) → p.msg ≡ y → is_quiet y ≡ true → Goal
    quiet y is calm = through y is (λ u call n e. absurd (let clash : true ≡ false = sym calm ∙ ap is_quiet e in cc)) (low_quiet t b a p.«from» y nothing calm (low_nothing t b))

    named : (u : Txn) (c : Bool) → same_txn t u ≡ c → is_low t b u (elected_now a u nothing) ≡ true
    named u false other = other_low t b u _ other
    named u true same = same_low t b u _ (ap (λ n. nat_le n b) (ap (last_elected u) (append-nil life.log) ∙ ap (λ y. last_elected y life.log) (sym (same_is t u same))) ∙ le_is (last_elected t life.log) b elected)

    by : (y : Message) → p.msg ≡ y → low_message t b y ≡ true → (c : Bool) → is_quiet y ≡ c → Goal
    by y is less true calm = quiet y is calm
    by (msg.Ask u call) is less false loud = through (msg.Ask u call) is (λ v c k e. absurd cc)
        (low_out t b a p.«from» (msg.LastElected u call (elected_now a u nothing)) nothing away (named u (same_txn t u) refl) (low_nothing t b))
    by (msg.LastElected u call n) is less false loud = last u call n is less (same_txn t u) refl
    by (msg.Elected u n) is less false loud = through (msg.Elected u n) is (λ v c k e. absurd cc) (low_on_elected t b a p.«from» u n nothing less (low_nothing t b))
    by (msg.Do u n op) is less false loud = absurd cc
    by (msg.Done u n inc answer) is less false loud = absurd cc
    by (msg.Died u n older) is less false loud = absurd cc
    by (msg.Report u n st attempt) is less false loud = absurd cc
    by (msg.VoteReq u inc count) is less false loud = absurd cc
    by (msg.Vote u said) is less false loud = absurd cc
    by (msg.Pre u n dir) is less false loud = absurd cc
    by (msg.Ack u n dir) is less false loud = absurd cc
    by (msg.Decide u dir) is less false loud = absurd cc

-- each input
pub goes : (t : Txn) (b limit : ℕ) (w : List ℕ) (s : ℕ) (life : Life) (was : Elections) (i : Input) (rs : List Record) (outs : List Packet) (events : List Told) →
    last_elected t life.log ≤ b → was.now ≡ now_at s t life → Fits b limit was.now → InputLow t b s i →
    Goes t b (limit + elects_of t i) (step_at (at w s life i)) (election_by s life.inc t was (moment life i rs outs events)).now
goes t b limit w s life was i rs outs events elected gathers fits low = by i low
  where
    more : Fits b (limit + 0) was.now
    more = record { heard = fits.heard; within = (let less : b + awaits was.now ≤ limit = fits.within in omega (arith, less)) }

    plain : (j : Input) → (election_by s life.inc t was (moment life j rs outs events)).now ≡ (if ends_election t (moment life j rs outs events) then None else was.now) →
        Low t b (on_input (at w s life j) j nothing) →
        Goes t b (limit + 0) (step_at (at w s life j)) (election_by s life.inc t was (moment life j rs outs events)).now
    plain j is made = stays t b (limit + 0) s life was j rs outs events (step_at (at w s life j)) more is (whole t b (at w s life j) made)

    called : (j : Input) → is_call j ≡ true → Low t b (on_input (at w s life j) j nothing)
    called j call = low_call t b (at w s life j) j call

    by : (j : Input) → InputLow t b s j → Goes t b (limit + elects_of t j) (step_at (at w s life j)) (election_by s life.inc t was (moment life j rs outs events)).now
    by (input.Begin sites) less = plain (input.Begin sites) refl (called (input.Begin sites) refl)
    by (input.Do u op) less = plain (input.Do u op) refl (called (input.Do u op) refl)
    by (input.Commit u) less = plain (input.Commit u) refl (called (input.Commit u) refl)
    by (input.Cancel u) less = plain (input.Cancel u) refl (called (input.Cancel u) refl)
    by (input.Expire u) less = plain (input.Expire u) refl (called (input.Expire u) refl)
    by (input.Elect u group) less = goes_elect t b limit w s life was u group rs outs events elected fits
    by (input.Deliver p) less = goes_message t b (limit + 0) w s life was p p.msg rs outs events refl elected gathers more less.0 less.1
