-- The election in progress behind a step: what it heard keeps the bound, and how far the bound may rise.
use Rattle.std.proofs.Common.{◌≡◌, ◌==◌, ◌&&◌, ◌+◌, ◌≤◌, ◌++◌, ◌∷◌, [], ℕ, suc, max, Bool, true, false, not, length, Option, Some, None, refl, ap, sym, ◌∙◌, if◌then◌else◌, fold, nat_lt, nat_le, arith}
use Rattle.std.specs.List.{list_any}
use Rattle.std.proofs.lemmas.Grind.{common_steps, fold-append}
use Rattle.e3_types.specs.declared.messages.Message.{Message}
use Rattle.e3_types.specs.declared.messages.Message.TheVariants as msg
use Rattle.e3_types.specs.declared.transactions.Call.{Call}
use Rattle.e3_types.specs.declared.transactions.Txn.{Txn}
use Rattle.e3_types.specs.Same.{same_txn, same_call}
use Rattle.e3_types.specs.Sets.{has_site}
use Rattle.e3_world.specs.Gatherings.{Election}
use Rattle.e3_world.specs.declared.lives.Moment.{Moment}
use Rattle.e3_world.specs.Elections.{after_heard, all_heard, election_with, greatest_heard, hear, is_join, joined_in, or_same, take_report}

-- what an election in progress heard keeps the bound
abbrev pub heard_low : ℕ → Option Election → Bool
heard_low b None = true
heard_low b (Some e) = nat_le (greatest_heard e) b

-- 1 where it awaits more answers, so that its site may join a greater number still
abbrev pub awaits : Option Election → ℕ
awaits None = 0
awaits (Some e) = if nat_lt (length e.heard) (length e.group) then 1 else 0

-- it keeps the bound, and the bound with what may come keeps the limit
pub record Fits (b limit : ℕ) (o : Option Election) : Type 0 where
  pub heard : heard_low b o ≡ true
  pub within : b + awaits o ≤ limit

pub under : (b limit : ℕ) (o : Option Election) → Fits b limit o → b ≤ limit
under b limit o fits = let less : b + awaits o ≤ limit = fits.within in omega (arith, less)

pub none_fits : (b limit : ℕ) → b ≤ limit → Fits b limit None
none_fits b limit less = record { heard = refl; within = omega (arith, less) }

pub choice_fits : (b limit : ℕ) (c : Bool) (o : Option Election) → Fits b limit o → Fits b limit (if c then None else o)
choice_fits b limit true o fits = none_fits b limit (under b limit o fits)
choice_fits b limit false o fits = fits

-- an election whose answers may all be there
pub record After (b limit : ℕ) (e : Election) (now : Option Election) : Type 0 where
  pub top : ℕ
  pub above : b ≤ top
  pub raised : all_heard e ≡ true → top ≡ suc b
  pub fits : Fits top limit now

le_suc : (n b : ℕ) → nat_le n b ≡ true → nat_le n (suc b) ≡ true
le_suc n b is = grind (arith, common_steps, is)

no_more : (n m : ℕ) → (n == m) ≡ true → nat_lt n m ≡ false
no_more n m is = grind (arith, common_steps, is)

pub after_is : (site : ℕ) (t : Txn) (m : Moment) (e : Election) (b limit : ℕ) → nat_le (greatest_heard e) b ≡ true → (all_heard e ≡ true → suc b ≤ limit) →
    (all_heard e ≡ false → b + awaits (Some e) ≤ limit) → After b limit e (after_heard site t m e)
after_is site t m e b limit low full part = by (all_heard e) refl
  where
    joined : (o : Option ℕ) → all_heard e ≡ true → joined_in t m.records ≡ o → After b limit e (after_heard site t m e)
    joined None all is = record {
      top = suc b;
      above = omega arith;
      raised = λ same. refl;
      fits = rw (all, is) (none_fits (suc b) limit (full all));
    }
    joined (Some n) all is = record {
      top = suc b;
      above = omega arith;
      raised = λ same. refl;
      fits = rw (all, is) (record {
        heard = le_suc (greatest_heard e) b low;
        within = rw (no_more (length e.heard) (length e.group) all) (let less : suc b ≤ limit = full all in let same : suc b + 0 ≤ limit = omega (arith, less) in same);
      });
    }

    by : (c : Bool) → all_heard e ≡ c → After b limit e (after_heard site t m e)
    by true all = joined (joined_in t m.records) all refl
    by false all = record {
      top = b;
      above = omega arith;
      raised = λ same. absurd (let clash : true ≡ false = sym same ∙ all in cc);
      fits = rw all (record { heard = low; within = part all });
    }

-- an answer that is taken
pub heard_is : (e more : Election) (f : ℕ) (call : Call) (n : ℕ) → hear e f call n ≡ Some more → more ≡ record e { heard = e.heard ++ record { site = f; elected = n } ∷ [] }
heard_is e more f call n is = by (same_call e.call call && has_site e.group f && not (list_any (λ h. h.site == f) e.heard)) refl
  where
    next : Election
    next = record e { heard = e.heard ++ record { site = f; elected = n } ∷ [] }

    by : (c : Bool) → (same_call e.call call && has_site e.group f && not (list_any (λ h. h.site == f) e.heard)) ≡ c → more ≡ next
    by true cond =
        let took : hear e f call n ≡ Some next = rw cond refl in
        let same : Some more ≡ Some next = sym is ∙ took in cc
    by false cond = absurd (
        let none : hear e f call n ≡ None = rw cond refl in
        let clash : Some more ≡ None = sym is ∙ none in cc)

max_low : (n m b : ℕ) → nat_le n b ≡ true → nat_le m b ≡ true → nat_le (max n m) b ≡ true
max_low n m b one two = grind (arith, common_steps, one, two)

pub next_low : (e : Election) (f n b : ℕ) → nat_le (greatest_heard e) b ≡ true → nat_le n b ≡ true →
    nat_le (fold (λ k h. max k h.elected) 0 (e.heard ++ record { site = f; elected = n } ∷ [])) b ≡ true
next_low e f n b low answer =
    ap (λ k. nat_le k b) (fold-append (λ k h. max k h.elected) 0 e.heard (record { site = f; elected = n } ∷ [])) ∙ max_low (greatest_heard e) n b low answer

-- a message that is no answer to a call of this transaction leaves the election as it is, or ends it
pub same_fits : (site : ℕ) (t : Txn) (m : Moment) (b limit : ℕ) (e : Election) (f : ℕ) (x : Message) →
    ((u : Txn) (call : Call) (n : ℕ) → x ≡ msg.LastElected u call n → same_txn t u ≡ false) → Fits b limit (Some e) → Fits b limit (election_with site t m e f x)
same_fits site t m b limit e f (msg.LastElected u call n) other fits = rw (other u call n refl) fits
same_fits site t m b limit e f (msg.Report u n st attempt) other fits = by (same_txn t u)
  where
    reported : (k : Option ℕ) → e.number ≡ k → Fits b limit (or_same e (take_report e n (record { site = f; state = st; attempt = attempt })))
    reported None is = rw is (record { heard = fits.heard; within = fits.within })
    reported (Some k) is = rw is (choose (record e { number = Some k }) (record { heard = fits.heard; within = fits.within }) (n == k && has_site e.group f && not (list_any (λ r. r.site == f) e.reports)))
      where
        choose : (x : Election) → Fits b limit (Some x) → (c : Bool) → Fits b limit (or_same x (if c then Some (record x { reports = x.reports ++ record { site = f; state = st; attempt = attempt } ∷ [] }) else None))
        choose x kept true = record { heard = kept.heard; within = kept.within }
        choose x kept false = kept

    by : (c : Bool) → Fits b limit (if c then or_same e (take_report e n (record { site = f; state = st; attempt = attempt })) else Some e)
    by true = reported e.number refl
    by false = fits
same_fits site t m b limit e f (msg.Elected u n) other fits = choice_fits b limit (list_any (is_join t) m.records) (Some e) fits
same_fits site t m b limit e f (msg.Do u n op) other fits = fits
same_fits site t m b limit e f (msg.Done u n inc answer) other fits = fits
same_fits site t m b limit e f (msg.Died u n older) other fits = fits
same_fits site t m b limit e f (msg.Ask u call) other fits = fits
same_fits site t m b limit e f (msg.VoteReq u inc count) other fits = fits
same_fits site t m b limit e f (msg.Vote u said) other fits = fits
same_fits site t m b limit e f (msg.Pre u n dir) other fits = fits
same_fits site t m b limit e f (msg.Ack u n dir) other fits = fits
same_fits site t m b limit e f (msg.Decide u dir) other fits = fits
