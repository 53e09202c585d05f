-- What the notes of one transaction say of the records that they were made from.
use Rattle.std.proofs.Common.{◌≡◌, ◌<◌, ◌++◌, ◌∷◌, [], ℕ, Bool, true, false, List, Option, Some, None, is_none, refl, sym, ap, subst, ◌∙◌, append_assoc, append-nil, if◌then◌else◌}
use Rattle.e3_types.specs.declared.records.Record.{Record}
use Rattle.e3_types.specs.declared.records.Record.TheVariants as log
use Rattle.e3_types.specs.declared.transactions.Dir.{Dir}
use Rattle.e3_types.specs.declared.transactions.Txn.{Txn}
use Rattle.e3_types.specs.Same.{same_txn}
use Rattle.e3_world.specs.Logs.{last_elected, is_undecided}
use Rattle.e3_laws.specs.agreement.Logs.{Note, Vote, Join, Attempt, Decision, Undecided, FitsAttempt, FitsDecision, Fits, Orderly}
use Rattle.e3_laws.specs.agreement.Marks.{behind}
use Rattle.e3_laws.proofs.agreement.Protocol.Logs.{final_is}
use Rattle.e3_laws.specs.agreement.Rows.{Reads}
use Rattle.e3_laws.specs.agreement.Views.{note_of, notes_of, decided}
use Rattle.e3_laws.proofs.agreement.Refinement.Lists.{same_from}
use Rattle.e3_laws.proofs.agreement.Refinement.Readings.{reads_push, behind-append, decision_in, has_from_vote, orderly_front}
use Rattle.e3_laws.specs.serial.Turns.{VoteInTurn, AttemptInTurn, DecisionInTurn, ComesInTurn, InTurnAfter}

-- a record comes in turn, if it is of this transaction
abbrev pub TurnOf : Txn → List Record → Record → Type 0
TurnOf t before (log.Vote u ops) = same_txn t u ≡ true → VoteInTurn before t
TurnOf t before (log.Join u n) = same_txn t u ≡ true → last_elected t before < n
TurnOf t before (log.Attempt u n dir) = same_txn t u ≡ true → AttemptInTurn before t n dir
TurnOf t before (log.Decision u dir) = same_txn t u ≡ true → DecisionInTurn before t dir
TurnOf t before r = Unit {0}

abbrev pub TurnsAfter : Txn → List Record → List Record → Type 0
TurnsAfter t before [] = Unit {0}
TurnsAfter t before (r ∷ rest) = TurnOf t before r × TurnsAfter t (before ++ r ∷ []) rest

pub turns_append : (t : Txn) (before xs ys : List Record) → TurnsAfter t before xs → TurnsAfter t (before ++ xs) ys → TurnsAfter t before (xs ++ ys)
turns_append t before [] ys first more = let P : List Record → Type 0 = λ l. TurnsAfter t l ys in subst P (append-nil before) more
turns_append t before (x ∷ xs) ys first more =
    let P : List Record → Type 0 = λ l. TurnsAfter t l ys in
    (first.0, turns_append t (before ++ x ∷ []) xs ys first.1 (subst P (sym (append_assoc before (x ∷ []) xs)) more))

-- nothing is decided in notes that are undecided
open_notes : (l : List Note) → Orderly l → Undecided l → decided l ≡ None
open_notes l o undecided = by (decided l) refl
  where
    by : (d : Option Dir) → decided l ≡ d → d ≡ None
    by None is = refl
    by (Some d) is = absurd (undecided d (final_is d l o (decision_in d l is)))

open_records : (t : Txn) (rs : List Record) (l : List Note) → Reads t rs l → Orderly l → Undecided l → is_undecided t rs ≡ true
open_records t rs l reads o undecided = ap is_none (reads.decides ∙ open_notes l o undecided)

vote_turn : (t : Txn) (rs : List Record) (l : List Note) → Reads t rs l → l ≡ [] → VoteInTurn rs t
vote_turn t rs l reads none =
    let P : List Note → Type 0 = λ x. Reads t rs x in
    let read : Reads t rs [] = subst P none reads in
    record { fresh = rw (read.decides, read.tries, read.votes) refl; not_joined = read.elects }

attempt_turn : (t : Txn) (rs : List Record) (l : List Note) (n : ℕ) (d : Dir) → Reads t rs l → Orderly l → FitsAttempt n d l → AttemptInTurn rs t n d
attempt_turn t rs l n d reads o fits =
    let low : ℕ → Type 0 = λ x. x < n in
    record {
      undecided = open_records t rs l reads o fits.open_yet;
      elected = fits.current ∙ sym reads.elects;
      rises = subst low (sym reads.attempts) fits.fresh;
      first = λ one. (reads.votes ∙ has_from_vote l (fits.first_voted one), fits.first_commits one);
    }

decision_turn : (t : Txn) (rs : List Record) (l : List Note) (d : Dir) → Reads t rs l → Orderly l → FitsDecision d l → DecisionInTurn rs t d
decision_turn t rs l d reads o fits = record {
  undecided = open_records t rs l reads o fits.open_yet;
  voted = λ commits. reads.votes ∙ has_from_vote l (fits.voted commits);
}

-- the note of a record that is of the transaction stands in front of the others
note_fits : (l : List Note) (n : Note) (b : Bool) → b ≡ true → Orderly (behind l (if b then n ∷ [] else [])) → Fits n l × Orderly l
note_fits l n true is o = o
note_fits l n false is o = absurd cc

-- a record whose note stands in order comes in turn
pub turn_of : (t : Txn) (e : ℕ) (rs : List Record) (l : List Note) (r : Record) → Reads t rs l → Orderly (behind l (note_of t e r)) → TurnOf t rs r
turn_of t e rs l (log.Birth format site weights rows) reads o = tt
turn_of t e rs l (log.Inc n) reads o = tt
turn_of t e rs l (log.Vote u ops) reads o = λ same. vote_turn t rs l reads (note_fits l Vote (same_txn t u) same o).0
turn_of t e rs l (log.Join u n) reads o = λ same.
    let low : ℕ → Type 0 = λ x. x < n in subst low (sym reads.elects) (note_fits l (Join n e) (same_txn t u) same o).0
turn_of t e rs l (log.Attempt u n d) reads o = λ same.
    let fit = note_fits l (Attempt n d) (same_txn t u) same o in attempt_turn t rs l n d reads fit.1 fit.0
turn_of t e rs l (log.Decision u d) reads o = λ same.
    let fit = note_fits l (Decision d) (same_txn t u) same o in decision_turn t rs l d reads fit.1 fit.0

-- and so do records whose notes stand in order
pub turns_of : (t : Txn) (e : ℕ) (rs : List Record) (l : List Note) (more : List Record) → Reads t rs l → Orderly (behind l (notes_of t e more)) → TurnsAfter t rs more
turns_of t e rs l [] reads o = tt
turns_of t e rs l (r ∷ more) reads o =
    let all : Orderly (behind (behind l (note_of t e r)) (notes_of t e more)) = subst Orderly (behind-append l (note_of t e r) (notes_of t e more)) o in (
      turn_of t e rs l r reads (orderly_front (behind l (note_of t e r)) (notes_of t e more) all),
      turns_of t e (rs ++ r ∷ []) (behind l (note_of t e r)) more (reads_push t e rs l r reads) all,
    )

-- each record is of some transaction, or of none
own_turn : (before : List Record) (r : Record) → ((t : Txn) → TurnOf t before r) → ComesInTurn before r
own_turn before (log.Birth format site weights rows) all = tt
own_turn before (log.Inc n) all = tt
own_turn before (log.Vote u ops) all = all u (same_from u u refl)
own_turn before (log.Join u n) all = all u (same_from u u refl)
own_turn before (log.Attempt u n d) all = all u (same_from u u refl)
own_turn before (log.Decision u d) all = all u (same_from u u refl)

pub own_turns : (before rs : List Record) → ((t : Txn) → TurnsAfter t before rs) → InTurnAfter before rs
own_turns before [] all = tt
own_turns before (r ∷ rest) all = (own_turn before r (λ t. (all t).0), own_turns (before ++ r ∷ []) rest (λ t. (all t).1))
