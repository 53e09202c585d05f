-- Decisions that a step makes and sends.
use Rattle.std.proofs.Common.{◌≡◌, inl, inr, ◌∷◌, [], ◌&&◌, ℕ, Bool, true, false, List, refl, sym, subst, if◌then◌else◌}
use Rattle.std.specs.Prelude.{drop, fold}
use Rattle.std.specs.List.{list_any}
use Rattle.e3_types.specs.declared.entries.Told.{Told}
use Rattle.e3_types.specs.declared.entries.Told.TheVariants as told
use Rattle.e3_types.specs.declared.messages.Message.TheVariants as msg
use Rattle.e3_types.specs.declared.records.Record.TheVariants as log
use Rattle.e3_types.specs.declared.transactions.Dir.{Dir}
use Rattle.e3_types.specs.declared.transactions.Dir.TheVariants.{Abort}
use Rattle.e3_types.specs.declared.transactions.Op.{Op}
use Rattle.e3_types.specs.declared.transactions.Txn.{Txn}
use Rattle.e3_types.specs.Same.{same_txn}
use Rattle.e3_world.specs.declared.lives.Asked.{Asked}
use Rattle.e3_world.specs.declared.lives.Made.{Made}
use Rattle.e3_world.specs.Making.{is_coordinator, is_present, and_record, and_tell, and_cast, and_decide, and_abort, and_abort_for, and_do, and_grant, and_grants, grants_after, decides, answer_now}
use Rattle.e3_laws.specs.agreement.Logs.{IsIn, Decision}
use Rattle.e3_laws.specs.agreement.Rules.{Word, Decide, MayWrite, MayDecide}
use Rattle.e3_laws.specs.agreement.Marks.{behind}
use Rattle.e3_laws.specs.agreement.Views.{word_if}
use Rattle.e3_laws.specs.agreement.Rows.{Here, party, notes_now, Good}
use Rattle.e3_laws.proofs.agreement.Refinement.Lists.{only_one}
use Rattle.e3_laws.proofs.agreement.Refinement.Makers.{MayLeave, now_push, first_stays, keep_record, keep_tell, keep_send, keep_cast}
use Rattle.e3_laws.proofs.steps.Tests.{same_is}

-- the word of a message, where it is of the transaction
pub only_word : (P : Word → Type 0) (b : Bool) (w : Word) → (b ≡ true → P w) → (v : Word) → IsIn v (word_if b w) → P v
only_word P true w h v (inl e) = subst P (sym e) (h refl)
only_word P true w h v (inr k) = absurd k
only_word P false w h v k = absurd k

-- the transaction's own decision, where it may be made
abbrev pub MayHere : Here → Made → Txn → Dir → Type 0
MayHere h made u d = h.txn ≡ u → MayDecide (party h) h.before.sent (notes_now h made) h.at.site d

pub keep_decision : (h : Here) (made : Made) (u : Txn) (d : Dir) → Good h made → MayHere h made u d → Good h (and_record (log.Decision u d) made)
keep_decision h made u d good may =
    keep_record h made (log.Decision u d) good (first_stays h made.records (log.Decision u d) refl)
    (only_one (λ n. MayWrite (party h) h.before.sent (notes_now h made) h.at.site n) (same_txn h.txn u) (Decision d) (λ is. may (same_is h.txn u is)))

-- behind it the decision stands
pub decision_stands : (h : Here) (made : Made) (u : Txn) (d : Dir) → same_txn h.txn u ≡ true → IsIn (Decision d) (notes_now h (and_record (log.Decision u d) made))
decision_stands h made u d is =
    subst (λ l. IsIn (Decision d) l) (sym (now_push h made (log.Decision u d))) (by (same_txn h.txn u) is)
  where
    by : (b : Bool) → b ≡ true → IsIn (Decision d) (behind (notes_now h made) (if b then Decision d ∷ [] else []))
    by true is = inl refl
    by false is = cc

pub keep_decide : (h : Here) (made : Made) (u : Txn) (d : Dir) → Good h made → MayHere h made u d → Good h (and_decide h.at u d made)
keep_decide h made u d good may = by (is_coordinator h.at u && is_present h.at u) refl
  where
    noted : Good h (and_record (log.Decision u d) made)
    noted = keep_decision h made u d good may

    by : (b : Bool) → (is_coordinator h.at u && is_present h.at u) ≡ b → Good h (and_decide h.at u d made)
    by true is = rw is (keep_tell h (and_record (log.Decision u d) made) (told.Ended u d) noted)
    by false is = rw is noted

pub decide_stands : (h : Here) (made : Made) (u : Txn) (d : Dir) → same_txn h.txn u ≡ true → IsIn (Decision d) (notes_now h (and_decide h.at u d made))
decide_stands h made u d same = by (is_coordinator h.at u && is_present h.at u) refl
  where
    by : (b : Bool) → (is_coordinator h.at u && is_present h.at u) ≡ b → IsIn (Decision d) (notes_now h (and_decide h.at u d made))
    by true is = rw is (decision_stands h made u d same)
    by false is = rw is (decision_stands h made u d same)

-- a decision that stands may be sent
pub keep_say_decide : (h : Here) (made : Made) (u : Txn) (d : Dir) (sites : List ℕ) → Good h made → (same_txn h.txn u ≡ true → IsIn (Decision d) (notes_now h made))
    → Good h (and_cast h.at sites (msg.Decide u d) made)
keep_say_decide h made u d sites good stands =
    keep_cast h sites (msg.Decide u d) made good
    (λ to k. only_word (λ w. MayLeave h (notes_now h made) to w) (same_txn h.txn u) (Decide d) (λ is. (stands is, λ n. cc)))

pub keep_decide_cast : (h : Here) (made : Made) (u : Txn) (d : Dir) (sites : List ℕ) → Good h made → MayHere h made u d
    → Good h (and_cast h.at sites (msg.Decide u d) (and_decide h.at u d made))
keep_decide_cast h made u d sites good may =
    keep_say_decide h (and_decide h.at u d made) u d sites (keep_decide h made u d good may) (λ is. decide_stands h made u d is)

pub keep_abort : (h : Here) (made : Made) (u : Txn) → Good h made → MayHere h made u Abort → Good h (and_abort h.at u made)
keep_abort h made u good may = keep_decide_cast h made u Abort u.sites good may

pub keep_abort_for : (h : Here) (made : Made) (u : Txn) (why : Told) → Good h made → MayHere h made u Abort → Good h (and_abort_for h.at u why made)
keep_abort_for h made u why good may =
    keep_say_decide h (and_tell why (and_record (log.Decision u Abort) made)) u Abort u.sites
    (keep_tell h (and_record (log.Decision u Abort) made) why (keep_decision h made u Abort good may))
    (λ is. decision_stands h made u Abort is)

-- an operation that is done sends its answer alone
pub keep_do : (h : Here) (made : Made) (u : Txn) (n : ℕ) (op : Op) → Good h made → Good h (and_do h.at u n op made)
keep_do h made u n op good = keep_send h made u.site (msg.Done u n h.at.life.inc (answer_now h.at u op made)) good (λ is. refl) (λ w k. absurd k)

keep_granted : (h : Here) (qs : List Asked) (made : Made) → Good h made → Good h (fold (and_grant h.at) made qs)
keep_granted h [] made good = good
keep_granted h (q ∷ qs) made good = keep_granted h qs (and_grant h.at made q) (keep_do h made q.txn q.n q.op good)

pub keep_grants : (h : Here) (seen : ℕ) (made : Made) → Good h made → Good h (and_grants h.at seen made)
keep_grants h seen made good = by (list_any decides (drop seen made.records)) refl
  where
    by : (b : Bool) → list_any decides (drop seen made.records) ≡ b → Good h (and_grants h.at seen made)
    by true is = rw is (keep_granted h (grants_after h.at made) made good)
    by false is = rw is good
