-- A client refuses just what its coordinator's step refuses.
use Rattle.std.specs.Prelude.{◌≡◌, ◌==◌, ◌++◌, ◌∷◌, [], ◌+◌, ◌<◌, ℕ, zero, suc, Bool, true, false, List, length, map, Option, Some, None, slice_get}
use Rattle.std.specs.List.{flat_map, list_all}
use Rattle.std.proofs.Common.{refl, ap, sym, subst, ◌∙◌, arith}
use Rattle.e3_types.specs.declared.entries.Refusal.{Refusal}
use Rattle.e3_types.specs.declared.entries.Refusal.TheVariants.{Busy, Died, Doomed, NoTxn, Over, TooLate}
use Rattle.e3_types.specs.declared.entries.Told.{Told}
use Rattle.e3_types.specs.declared.entries.Told.TheVariants as told
use Rattle.e3_types.specs.declared.records.Record.{Record}
use Rattle.e3_types.specs.declared.transactions.Dir.{Dir}
use Rattle.e3_types.specs.declared.transactions.Dir.TheVariants.{Abort, Commit}
use Rattle.e3_types.specs.declared.transactions.Op.{Op}
use Rattle.e3_types.specs.declared.transactions.State.{State}
use Rattle.e3_types.specs.declared.transactions.State.TheVariants.{Q, W, Pc, Pa, C, A}
use Rattle.e3_types.specs.declared.transactions.Txn.{Txn}
use Rattle.e3_types.specs.Same.{same_txn}
use Rattle.e3_world.proofs.Turns.{true_not_false}
use Rattle.e3_world.specs.declared.lives.At.{At}
use Rattle.e3_world.specs.declared.lives.Made.{Made}
use Rattle.e3_world.specs.declared.lives.Moment.{Moment}
use Rattle.e3_world.specs.Logs.{attempted, decision, has_voted, is_undecided, key_of, state_of}
use Rattle.e3_world.specs.Making.{attempt_now, is_present, log_now, state_now}
use Rattle.e3_world.specs.Operations.{expected as expected_at, issued, kept_reason, op_told, reason_in, unanswered as unanswered_at}
use Rattle.e3_world.specs.Steps.{refuse as refuse_at, refuse_late}
use Rattle.e3_client.specs.declared.client.Issued.{Issued}
use Rattle.e3_client.specs.Clients.{Kept, busy_or, expected, late, late_if, refuse, refuse_cancel, refuse_decided, unanswered}
use Rattle.e3_client.specs.Rule.{IsKept, StandsAt, is_answered}
use Rattle.e3_client.proofs.Numbered.{all_answered, from_first, not_answered}

-- the reasons that are told are those for which a decided transaction is refused
abbrev is_reason : Refusal → Bool
is_reason (Died older) = true
is_reason (Doomed site had now) = true
is_reason _ = false

all_more : (xs ys : List Refusal) → list_all is_reason xs ≡ true → list_all is_reason ys ≡ true → list_all is_reason (xs ++ ys) ≡ true
all_more [] ys here there = there
all_more (x ∷ xs) ys here there = by (is_reason x) refl (λ rest. all_more xs ys rest there) here
  where
    by : (b : Bool) → is_reason x ≡ b → (list_all is_reason xs ≡ true → list_all is_reason (xs ++ ys) ≡ true) → list_all is_reason (x ∷ xs) ≡ true
        → list_all is_reason ((x ∷ xs) ++ ys) ≡ true
    by true is more h = rw is (more (sym (let same : list_all is_reason (x ∷ xs) ≡ list_all is_reason xs = rw is refl in same) ∙ h))
    by false is more h = absurd (true_not_false (sym h ∙ (let same : list_all is_reason (x ∷ xs) ≡ false = rw is refl in same)))

one_reason : (t : Txn) (e : Told) → list_all is_reason (reason_in t e) ≡ true
one_reason t (told.Died u older) = by (same_txn t u) refl
  where
    by : (b : Bool) → same_txn t u ≡ b → list_all is_reason (reason_in t (told.Died u older)) ≡ true
    by true is = rw is refl
    by false is = rw is refl
one_reason t (told.Doomed u site had now) = by (same_txn t u) refl
  where
    by : (b : Bool) → same_txn t u ≡ b → list_all is_reason (reason_in t (told.Doomed u site had now)) ≡ true
    by true is = rw is refl
    by false is = rw is refl
one_reason t (told.Began u) = refl
one_reason t (told.Op u n answer) = refl
one_reason t (told.Ended u dir) = refl
one_reason t (told.Refused u refusal) = refl
one_reason t (told.Kept u st) = refl
one_reason t (told.Verdict u n v) = refl

told_reasons : (t : Txn) (events : List Told) → list_all is_reason (flat_map (reason_in t) events) ≡ true
told_reasons t [] = refl
told_reasons t (e ∷ events) = all_more (reason_in t e) (flat_map (reason_in t) events) (one_reason t e) (told_reasons t events)

are_reasons : (t : Txn) (steps : List Moment) → list_all is_reason (kept_reason t steps) ≡ true
are_reasons t [] = refl
are_reasons t (m ∷ steps) = all_more (flat_map (reason_in t) m.told) (kept_reason t steps) (told_reasons t m.told) (are_reasons t steps)

-- the refusal of a transaction that is decided, by the reasons that were told
abbrev by_reasons : Dir → List Refusal → Option Refusal
by_reasons dir [] = Some (Over dir)
by_reasons dir (why ∷ more) = Some why

aborted : (reasons : List Refusal) → list_all is_reason reasons ≡ true → refuse_decided Abort (slice_get reasons 0) ≡ by_reasons Abort reasons
aborted [] all = refl
aborted (Died older ∷ more) all = refl
aborted (Doomed site had now ∷ more) all = refl
aborted (NoTxn ∷ more) all = absurd (true_not_false (sym all))
aborted (Busy op ∷ more) all = absurd (true_not_false (sym all))
aborted (Over dir ∷ more) all = absurd (true_not_false (sym all))
aborted (TooLate attempt ∷ more) all = absurd (true_not_false (sym all))

-- the operation that is unanswered
pub count : (coordinator : ℕ) (steps : List Moment) (k : Kept) → IsKept coordinator steps k → length k.ops ≡ length (issued k.txn steps)
count coordinator steps k kept =
    sym (long (λ (o : Issued). o.site) k.ops) ∙ ap length kept.sites ∙ long (λ (o : Op). (key_of o).site) (issued k.txn steps)
  where
    long : {X : Type 0} (f : X → ℕ) (xs : List X) → length (map f xs) ≡ length xs
    long f [] = refl
    long f (x ∷ xs) = ap suc (long f xs)

pub unanswered_same : (coordinator : ℕ) (log : List Record) (steps : List Moment) (k : Kept) → IsKept coordinator steps k → is_undecided k.txn log ≡ true
    → unanswered k.ops ≡ unanswered_at k.txn log steps
unanswered_same coordinator log steps k kept undecided = by (length (issued k.txn steps)) refl (unanswered k.ops) refl
  where
    by : (n : ℕ) → length (issued k.txn steps) ≡ n → (o : Option ℕ) → unanswered k.ops ≡ o → o ≡ unanswered_at k.txn log steps
    by zero is None e = rw is refl
    by zero is (Some m) e = absurd (
        let low = from_first 1 m k.ops e in let last = kept.last m e in let same = count coordinator steps k kept in omega (arith, is, low, last, same))
    by (suc n) is None e =
        let same = count coordinator steps k kept in
        let low : n < length k.ops = omega (arith, is, same) in
        let number : 1 + n ≡ suc n = omega arith in
        let yes : op_told k.txn (suc n) steps ≡ true =
        sym (kept.told (suc n)) ∙ subst (λ (a : ℕ). is_answered a k.ops ≡ true) number (all_answered 1 n k.ops e low) in
        rw (is, undecided, yes) refl
    by (suc n) is (Some m) e =
        let same = count coordinator steps k kept in
        let last = kept.last m e in
        let number : m ≡ suc n = omega (arith, is, same, last) in
        let off : op_told k.txn (suc n) steps ≡ false =
        sym (kept.told (suc n)) ∙ subst (λ (a : ℕ). is_answered a k.ops ≡ false) number (not_answered 1 m k.ops e) in
        rw (is, undecided, off) (ap (λ (a : ℕ). Some a) number)

-- the state of a transaction that is undecided is none of the last two
abbrev is_last : State → Bool
is_last C = true
is_last A = true
is_last _ = false

open_state : (t : Txn) (log : List Record) → decision t log ≡ None → is_last (state_of t log) ≡ false
open_state t log none = by (attempted t log) refl (has_voted t log) refl
  where
    by : (o : Option Dir) → attempted t log ≡ o → (b : Bool) → has_voted t log ≡ b → is_last (state_of t log) ≡ false
    by (Some Commit) is b e = rw (none, is) refl
    by (Some Abort) is b e = rw (none, is) refl
    by None is true e = rw (none, is, e) refl
    by None is false e = rw (none, is, e) refl

abbrev final : Dir → State
final Commit = C
final Abort = A

last_state : (t : Txn) (log : List Record) (dir : Dir) → decision t log ≡ Some dir → state_of t log ≡ final dir
last_state t log Commit is = rw is refl
last_state t log Abort is = rw is refl

late_same : (a : At) (t : Txn) (made : Made) (st : State) → state_now a t made ≡ st → refuse_late a t made ≡ late st (attempt_now a t made)
late_same a t made Q is = rw is refl
late_same a t made W is = rw is refl
late_same a t made Pc is = rw is refl
late_same a t made Pa is = rw is refl
late_same a t made C is = rw is refl
late_same a t made A is = rw is refl

open_refuse : (st : State) (attempt : ℕ) (k : Kept) → is_last st ≡ false → refuse st attempt k ≡ busy_or st attempt (unanswered k.ops)
open_refuse Q attempt k off = refl
open_refuse W attempt k off = refl
open_refuse Pc attempt k off = refl
open_refuse Pa attempt k off = refl
open_refuse C attempt k off = absurd (true_not_false off)
open_refuse A attempt k off = absurd (true_not_false off)

-- where it is decided, the first reason is told, if there is one
decided_at : (a : At) (t : Txn) (cancels : Bool) (made : Made) (dir : Dir) (reasons : List Refusal) → kept_reason t a.life.steps ≡ reasons
    → decision t (log_now a made) ≡ Some dir → by_reasons dir reasons ≡ refuse_at a t cancels made
decided_at a t cancels made dir [] e is = rw (is, e) refl
decided_at a t cancels made dir (why ∷ more) e is = rw (is, e) refl

refused_last : (a : At) (made : Made) (k : Kept) (st : State) (attempt : ℕ) (dir : Dir) → StandsAt a made k st attempt → decision k.txn (log_now a made) ≡ Some dir
    → refuse_decided dir k.why ≡ by_reasons dir (kept_reason k.txn a.life.steps)
refused_last a made k st attempt Commit at is =
    let none : kept_reason k.txn a.life.steps ≡ [] = at.reason is in
    let why : k.why ≡ None = at.kept.why ∙ ap (λ (l : List Refusal). slice_get l 0) none in
    ap (λ (o : Option Refusal). refuse_decided Commit o) why ∙ ap (λ (l : List Refusal). by_reasons Commit l) (sym none)
refused_last a made k st attempt Abort at is =
    ap (λ (o : Option Refusal). refuse_decided Abort o) at.kept.why ∙ aborted (kept_reason k.txn a.life.steps) (are_reasons k.txn a.life.steps)

refuse_final : (dir : Dir) (attempt : ℕ) (k : Kept) → refuse (final dir) attempt k ≡ refuse_decided dir k.why
refuse_final Commit attempt k = refl
refuse_final Abort attempt k = refl

cancel_final : (dir : Dir) (attempt : ℕ) (k : Kept) → refuse_cancel (final dir) attempt k ≡ refuse_decided dir k.why
cancel_final Commit attempt k = refl
cancel_final Abort attempt k = refl

-- an undecided transaction with no operation unanswered is refused where it is too late
refused_late : (a : At) (t : Txn) (made : Made) (why : Option Refusal) → refuse_late a t made ≡ why → decision t (log_now a made) ≡ None
    → is_present a t ≡ true → unanswered_at t (log_now a made) a.life.steps ≡ None → refuse_at a t false made ≡ why
refused_late a t made why same none present is = rw (none, present, is) same

-- an operation or a commit of an undecided transaction of this incarnation
pub open_at : (a : At) (t : Txn) (made : Made) → decision t (log_now a made) ≡ None → is_present a t ≡ true
    → busy_or (state_now a t made) (attempt_now a t made) (unanswered_at t (log_now a made) a.life.steps) ≡ refuse_at a t false made
open_at a t made none present = by (unanswered_at t (log_now a made) a.life.steps) refl
  where
    by : (o : Option ℕ) → unanswered_at t (log_now a made) a.life.steps ≡ o
        → busy_or (state_now a t made) (attempt_now a t made) o ≡ refuse_at a t false made
    by (Some n) is = rw (none, present, is) refl
    by None is = sym (refused_late a t made (late (state_now a t made) (attempt_now a t made))
        (late_same a t made (state_now a t made) refl) none present is)

-- an operation or a commit
pub refuse_same : (a : At) (made : Made) (k : Kept) (st : State) (attempt : ℕ) → StandsAt a made k st attempt → refuse st attempt k ≡ refuse_at a k.txn false made
refuse_same a made k st attempt at = by (decision k.txn (log_now a made)) refl
  where
    by : (o : Option Dir) → decision k.txn (log_now a made) ≡ o → refuse st attempt k ≡ refuse_at a k.txn false made
    by (Some dir) is =
        ap (λ (s : State). refuse s attempt k) (at.state_is ∙ last_state k.txn (log_now a made) dir is) ∙ refuse_final dir attempt k
        ∙ refused_last a made k st attempt dir at is ∙ decided_at a k.txn false made dir (kept_reason k.txn a.life.steps) refl is
    by None is =
        let undecided : is_undecided k.txn (log_now a made) ≡ true = rw is refl in
        let off : is_last st ≡ false = ap is_last at.state_is ∙ open_state k.txn (log_now a made) is in
        open_refuse st attempt k off
        ∙ ap (λ (o : Option ℕ). busy_or st attempt o) (unanswered_same a.site (log_now a made) a.life.steps k at.kept undecided)
        ∙ ap (λ (s : State). busy_or s attempt (unanswered_at k.txn (log_now a made) a.life.steps)) at.state_is
        ∙ ap (λ (n : ℕ). busy_or (state_now a k.txn made) n (unanswered_at k.txn (log_now a made) a.life.steps)) at.attempt_is
        ∙ open_at a k.txn made is at.present

open_cancel : (st : State) (attempt : ℕ) (k : Kept) → is_last st ≡ false → refuse_cancel st attempt k ≡ late_if attempt
open_cancel Q attempt k off = refl
open_cancel W attempt k off = refl
open_cancel Pc attempt k off = refl
open_cancel Pa attempt k off = refl
open_cancel C attempt k off = absurd (true_not_false off)
open_cancel A attempt k off = absurd (true_not_false off)

-- a cancel
pub cancel_same : (a : At) (made : Made) (k : Kept) (st : State) (attempt : ℕ) → StandsAt a made k st attempt → refuse_cancel st attempt k ≡ refuse_at a k.txn true made
cancel_same a made k st attempt at = by (decision k.txn (log_now a made)) refl
  where
    by : (o : Option Dir) → decision k.txn (log_now a made) ≡ o → refuse_cancel st attempt k ≡ refuse_at a k.txn true made
    by (Some dir) is =
        ap (λ (s : State). refuse_cancel s attempt k) (at.state_is ∙ last_state k.txn (log_now a made) dir is) ∙ cancel_final dir attempt k
        ∙ refused_last a made k st attempt dir at is ∙ decided_at a k.txn true made dir (kept_reason k.txn a.life.steps) refl is
    by None is =
        let off : is_last st ≡ false = ap is_last at.state_is ∙ open_state k.txn (log_now a made) is in
        open_cancel st attempt k off ∙ ap late_if at.attempt_is ∙ sym (rw (is, at.present) refl)

-- what is expected of another site
pub expected_same : (coordinator inc site : ℕ) (steps : List Moment) (k : Kept) → IsKept coordinator steps k → (coordinator == site) ≡ false
    → expected site k.ops ≡ expected_at coordinator inc k.txn steps site
expected_same coordinator inc site steps k kept other = kept.heard site other ∙ sym (rw other refl)
