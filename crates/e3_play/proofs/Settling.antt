-- A step begins with its line, and behind it the step is through.
use Rattle.std.proofs.Common.{◌≡◌, ◌≢◌, ◌==◌, ◌&&◌, ◌||◌, ◌++◌, ◌∷◌, [], ◌≤◌, inl, inr, ℕ, zero, suc, Bool, true, false, not, List, length, None, refl, sym, subst, ap, ◌∙◌, arith}
use Rattle.std.specs.Prelude.{nat_lt}
use Rattle.std.specs.List.{list_all}
use Rattle.e3_play.specs.Reports.{IsRecovered}
use Rattle.e3_types.specs.declared.entries.Act.TheVariants.{Cut, Line, Miss, Rise, RiseFall}
use Rattle.e3_types.specs.declared.entries.Entry.{Entry}
use Rattle.e3_types.specs.declared.scenarios.Item.{Item}
use Rattle.e3_types.specs.declared.scenarios.Item.TheVariants as item
use Rattle.e3_types.specs.declared.scenarios.Leave.{Leave}
use Rattle.e3_types.specs.declared.scenarios.Scenario.{Scenario}
use Rattle.e3_world.specs.Items.{due_round, is_up_at, since_line}
use Rattle.e3_world.specs.Legal.{IsCut, IsLegal, IsRising, IsWhole, has_rising, is_made, is_rising, may_rise}
use Rattle.e3_world.specs.Packets.{all_sites, is_calm, is_line, lines, outs_of, pending, present_items, step_items}
use Rattle.e3_world.specs.Progress.{ItemsDone}
use Rattle.e3_world.proofs.Guards.{lines_push, step_through}
use Rattle.e3_world.proofs.Lines.{begin_step, lines_to}
use Rattle.e3_world.proofs.Readings.{since_push, split_push, up_same}
use Rattle.e3_world.proofs.Turns.{self, true_not_false}
use Rattle.e3_play.specs.Played.{IsAsked, IsFresh, IsSettled}
use Rattle.e3_play.proofs.Quiet.{none_pending}
use Rattle.e3_play.proofs.Steps.{step_settles}
use Rattle.e3_play.proofs.DuePackets.{bounded, full_too, some_line, whole_parts}
use Rattle.e3_play.proofs.SameSteps.{same_step}
use Rattle.e3_play.specs.Delivered.{ACut, ARise, IsFull, IsFullBefore, IsOwed, IsPacketOrRound, OfRecovery}
use Rattle.e3_play.specs.Entering.{AfterRise}
use Rattle.e3_play.specs.Settled.{StaysInStep, is_asking}
use Rattle.e3_world.specs.Progress.{Delivering}

-- behind the line of a step
pub record IsBegun (sc : Scenario) (h : List Entry) (k : ℕ) : Type 0 where
  pub fresh : IsFresh sc h (step_items sc (suc k))
  pub at : lines h ≡ suc k

pub line_begins : (sc : Scenario) (h next : List Entry) (k number : ℕ) → number ≡ suc k → IsSettled sc h k → suc k ≤ length sc.steps →
    next ≡ h ++ record { owner = 0; act = Line number } ∷ [] → IsBegun sc next k
line_begins sc h next k number counted was more entered =
    let P : List Entry → Type 0 = λ l. IsBegun sc l k in
    subst P (sym (entered ∙ ap (λ n. h ++ record { owner = 0; act = Line n } ∷ []) counted)) (record {
      fresh = record {
        legal = items.legal;
        begun = λ none. (let both : suc k ≡ 0 = sym at ∙ none in absurd cc);
        present = ap (step_items sc) at;
        fresh = ap (λ w. w.since) (split_push h e);
        none = none_pending sc h e refl was.none;
      };
      at = at;
    })
  where
    e : Entry
    e = record { owner = 0; act = Line (suc k) }

    items : ItemsDone sc (h ++ e ∷ []) [] (step_items sc (suc k))
    items = begin_step sc h k was.legal was.at more was.through

    at : lines (h ++ e ∷ []) ≡ suc k
    at = lines_push h e ∙ (let at : lines h ≡ k = was.at in omega (arith, at))

-- a step that is made, with nothing pending, is through
settles : (sc : Scenario) (h : List Entry) (n : ℕ) → IsLegal sc h → lines h ≡ n → n ≢ 0 → pending sc h ≡ [] → is_made sc h ≡ true → IsSettled sc h n
settles sc h n legal at begun none made =
    let line : (k : ℕ) × (n ≡ suc k) = some_line n begun in
    record { legal = legal; at = at; none = none; through = step_through sc h line.0 (at ∙ line.1) none made }

-- one more entry, which is no line and sends nothing
settles_on : (sc : Scenario) (h next : List Entry) (e : Entry) (items : List Item) → IsFresh sc h items → IsLegal sc next → next ≡ h ++ e ∷ [] →
    is_line e ≡ false → outs_of e.act ≡ [] → (present_items sc (h ++ e ∷ []) ≡ items → is_made sc (h ++ e ∷ []) ≡ true) → IsSettled sc next (lines h)
settles_on sc h next e items was legal entered stays out made =
    let P : List Entry → Type 0 = λ l. IsLegal sc l in
    let Q : List Entry → Type 0 = λ l. IsSettled sc l (lines h) in
    let same : lines (h ++ e ∷ []) ≡ lines h = lines_push h e ∙ rw stays (omega arith) in
    subst Q (sym entered) (settles sc (h ++ e ∷ []) (lines h) (subst P entered legal) same was.begun (none_pending sc h e out was.none)
    (made (ap (step_items sc) same ∙ was.present)))

-- a crash
crash_made : (sc : Scenario) (h : List Entry) (s : ℕ) → present_items sc h ≡ item.Crash s ∷ [] → is_up_at h s ≡ false → is_made sc h ≡ true
crash_made sc h s is down = rw (is, down) refl

crash_unmade : (sc : Scenario) (h : List Entry) (s : ℕ) → present_items sc h ≡ item.Crash s ∷ [] → is_up_at h s ≡ true → is_made sc h ≡ false
crash_unmade sc h s is up = rw (is, up) refl

pub may_cut : (sc : Scenario) (h : List Entry) (s : ℕ) → IsFresh sc h (item.Crash s ∷ []) → is_up_at h s ≡ true → IsCut sc h s
may_cut sc h s was up = record { up = up; crash = was.present }

pub cut_settles : (sc : Scenario) (h next : List Entry) (s : ℕ) → IsFresh sc h (item.Crash s ∷ []) → IsLegal sc next →
    next ≡ h ++ record { owner = s; act = Cut } ∷ [] → IsSettled sc next (lines h)
cut_settles sc h next s was legal entered = settles_on sc h next e (item.Crash s ∷ []) was legal entered refl refl
    (λ is. crash_made sc (h ++ e ∷ []) s is (up_same h e s (self s)))
  where
    e : Entry
    e = record { owner = s; act = Cut }

pub crash_passed : (sc : Scenario) (h : List Entry) (s : ℕ) → IsFresh sc h (item.Crash s ∷ []) → is_up_at h s ≡ false → IsSettled sc h (lines h)
crash_passed sc h s was down = settles sc h (lines h) was.legal refl was.begun was.none (crash_made sc h s was.present down)

pub crash_open : (sc : Scenario) (h : List Entry) (s : ℕ) → IsFresh sc h (item.Crash s ∷ []) → is_up_at h s ≡ true → ¬ IsWhole sc h
crash_open sc h s was up whole = true_not_false (sym (whole_parts sc h was.begun whole).1 ∙ crash_unmade sc h s was.present up)

pub crash_full : (sc : Scenario) (h : List Entry) (s most : ℕ) → IsFresh sc h (item.Crash s ∷ []) → is_up_at h s ≡ true → length h ≤ most → most ≤ length h → IsFull sc h most
crash_full sc h s most was up few many = bounded sc h most few many (ACut s (may_cut sc h s was up)) (crash_open sc h s was up)

-- a restart
restart_made : (sc : Scenario) (h : List Entry) (s : ℕ) → present_items sc h ≡ item.Restart s ∷ [] → (is_up_at h s || has_rising (since_line h) s) ≡ true →
    is_made sc h ≡ true
restart_made sc h s is made = rw is made

restart_unmade : (sc : Scenario) (h : List Entry) (s : ℕ) → present_items sc h ≡ item.Restart s ∷ [] → is_up_at h s ≡ false → since_line h ≡ [] →
    is_made sc h ≡ false
restart_unmade sc h s is down fresh = rw (is, down, fresh) refl

or_true : (b : Bool) → (b || true) ≡ true
or_true true = refl
or_true false = refl

pub may_restart : (sc : Scenario) (h : List Entry) (s : ℕ) → IsFresh sc h (item.Restart s ∷ []) → s ≤ length sc.weights → is_up_at h s ≡ false → IsRising sc h s
may_restart sc h s was some down = record { exists = some; down = down; turn = turn }
  where
    line : (k : ℕ) × (lines h ≡ suc k)
    line = some_line (lines h) was.begun

    by : ℕ → List Item → Bool
    by zero items = not (has_rising h s) && list_all (λ x. not (nat_lt x s) || has_rising h x) (all_sites sc)
    by (suc n) (item.Restart x ∷ items) = x == s && not (has_rising (since_line h) s)
    by (suc n) items = false

    last : (s == s && not (has_rising (since_line h) s)) ≡ true
    last = rw (self s, was.fresh) refl

    turn : may_rise sc h s ≡ true
    turn = ap (λ n. by n (present_items sc h)) line.1 ∙ ap (by (suc line.0)) was.present ∙ last

rise_made : (sc : Scenario) (h : List Entry) (s : ℕ) (e : Entry) → IsFresh sc h (item.Restart s ∷ []) → e.owner ≡ s → is_rising e ≡ true → is_line e ≡ false →
    present_items sc (h ++ e ∷ []) ≡ item.Restart s ∷ [] → is_made sc (h ++ e ∷ []) ≡ true
rise_made sc h s e was mine rises stays is = restart_made sc (h ++ e ∷ []) s is (ap (λ b. is_up_at (h ++ e ∷ []) s || b) rose ∙ or_true (is_up_at (h ++ e ∷ []) s))
  where
    owned : (e.owner == s) ≡ true
    owned = ap (λ n. n == s) mine ∙ self s

    since : since_line (h ++ e ∷ []) ≡ e ∷ []
    since = since_push h e stays ∙ ap (λ l. l ++ e ∷ []) was.fresh

    rose : has_rising (since_line (h ++ e ∷ [])) s ≡ true
    rose = ap (λ l. has_rising l s) since ∙ rw (owned, rises) refl

pub rise_settles : (sc : Scenario) (h next : List Entry) (s : ℕ) → IsFresh sc h (item.Restart s ∷ []) → IsLegal sc next → AfterRise sc h s next →
    IsSettled sc next (lines h)
rise_settles sc h next s was legal (inl rose) =
    settles_on sc h next _ (item.Restart s ∷ []) was legal rose.entered refl refl (rise_made sc h s (record { owner = s; act = Rise rose.kept rose.inc }) was refl refl refl)
rise_settles sc h next s was legal (inr (inl failed)) =
    settles_on sc h next _ (item.Restart s ∷ []) was legal failed.entered refl refl
    (rise_made sc h s (record { owner = s; act = RiseFall failed.kept failed.inc failed.why }) was refl refl refl)
rise_settles sc h next s was legal (inr (inr missed)) =
    settles_on sc h next _ (item.Restart s ∷ []) was legal missed refl refl (rise_made sc h s (record { owner = s; act = Miss }) was refl refl refl)

pub restart_passed : (sc : Scenario) (h : List Entry) (s : ℕ) → IsFresh sc h (item.Restart s ∷ []) → is_up_at h s ≡ true → IsSettled sc h (lines h)
restart_passed sc h s was up = settles sc h (lines h) was.legal refl was.begun was.none
    (restart_made sc h s was.present (ap (λ b. b || has_rising (since_line h) s) up))

pub restart_open : (sc : Scenario) (h : List Entry) (s : ℕ) → IsFresh sc h (item.Restart s ∷ []) → is_up_at h s ≡ false → ¬ IsWhole sc h
restart_open sc h s was down whole = true_not_false (sym (whole_parts sc h was.begun whole).1 ∙ restart_unmade sc h s was.present down was.fresh)

pub restart_full : (sc : Scenario) (h : List Entry) (s most : ℕ) → IsFresh sc h (item.Restart s ∷ []) → s ≤ length sc.weights → is_up_at h s ≡ false →
    length h ≤ most → most ≤ length h → IsFull sc h most
restart_full sc h s most was some down few many = bounded sc h most few many (ARise s (may_restart sc h s was some down)) (restart_open sc h s was down)

-- a recovery
recovery_made : (sc : Scenario) (h : List Entry) (group : List ℕ) → present_items sc h ≡ item.Recover group ∷ [] → due_round sc h ≡ None → is_made sc h ≡ true
recovery_made sc h group is none = rw (is, none) refl

pub recovery_settles : (sc : Scenario) (h next : List Entry) (group : List ℕ) → IsFresh sc h (item.Recover group ∷ []) → IsRecovered sc h next → IsSettled sc next (lines h)
recovery_settles sc h next group was now =
    settles sc next (lines h) now.delivering.legal same was.begun now.settled (recovery_made sc next group (ap (step_items sc) same ∙ was.present) now.made)
  where
    same : lines next ≡ lines h
    same = sym (lines_to next) ∙ ap lines now.same_line

-- a stop
stop_made : (sc : Scenario) (h : List Entry) (s calls : ℕ) (leave : Leave) → present_items sc h ≡ item.Stop s calls leave ∷ [] → is_made sc h ≡ true
stop_made sc h s calls leave is = rw is refl

pub stop_settles : (sc : Scenario) (h : List Entry) (s calls : ℕ) (leave : Leave) → IsFresh sc h (item.Stop s calls leave ∷ []) → IsSettled sc h (lines h)
stop_settles sc h s calls leave was = settles sc h (lines h) was.legal refl was.begun was.none (stop_made sc h s calls leave was.present)

-- a group, a split or a merge
pub exchange_settles : (sc : Scenario) (start asked last : List Entry) (items : List Item) → IsFresh sc start items → is_asking items ≡ true →
    IsAsked start asked items → StaysInStep asked last → Delivering sc last → pending sc last ≡ [] → IsSettled sc last (lines start)
exchange_settles sc start asked last items fresh form was grown done none =
    let line : (k : ℕ) × (lines start ≡ suc k) = some_line (lines start) fresh.begun in
    let Q : ℕ → Type 0 = λ m. IsSettled sc last m in
    subst Q (sym line.1) (step_settles sc start asked last line.0 items line.1 fresh form was grown done none)

-- a recovery that is not through lacks a packet or a round
pub recovery_full : (sc : Scenario) (h next : List Entry) (group : List ℕ) (most : ℕ) → IsFresh sc h (item.Recover group ∷ []) → StaysInStep h next →
    IsFullBefore IsPacketOrRound sc next most → IsFull sc next most
recovery_full sc h next group most was stays full = full_too IsPacketOrRound IsOwed sc next most
    (λ due. OfRecovery (ap is_calm ((same_step sc h next stays).present ∙ was.present)) due) full
