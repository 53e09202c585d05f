-- A site whose round is in progress is undecided.
use Rattle.std.proofs.Common.{◌≡◌, ◌⊎◌, inl, inr, ◌==◌, ◌&&◌, ◌∷◌, ◌++◌, [], ℕ, Bool, true, false, List, Option, Some, None, option_map, is_none, refl, ap, sym, subst, ◌∙◌, append-nil, append_assoc, fold, if◌then◌else◌}
use Rattle.std.specs.List.{list_any}
use Rattle.std.proofs.lemmas.Bool.{cases_eq}
use Rattle.e3_types.specs.declared.entries.Input.{Input}
use Rattle.e3_types.specs.declared.entries.Input.TheVariants as input
use Rattle.e3_types.specs.declared.messages.Message.{Message}
use Rattle.e3_types.specs.declared.messages.Message.TheVariants as msg
use Rattle.e3_types.specs.declared.messages.Packet.{Packet}
use Rattle.e3_types.specs.declared.records.Record.{Record}
use Rattle.e3_types.specs.declared.records.Record.TheVariants as log
use Rattle.e3_types.specs.declared.scenarios.Scenario.{Scenario}
use Rattle.e3_types.specs.declared.transactions.Dir.{Dir}
use Rattle.e3_types.specs.declared.transactions.Txn.{Txn}
use Rattle.e3_types.specs.Same.{same_txn}
use Rattle.e3_world.specs.declared.lives.Incarnation.{Incarnation}
use Rattle.e3_world.specs.declared.lives.Life.{Life}
use Rattle.e3_world.specs.declared.lives.Made.{Made}
use Rattle.e3_world.specs.AttemptRules.{on_pre}
use Rattle.e3_world.specs.Elections.{is_decision}
use Rattle.e3_world.specs.Gatherings.{Round, Rounds}
use Rattle.e3_world.specs.Lives.{present_log, incarnation_of, life_of, life_at}
use Rattle.e3_world.specs.Logs.{decision, is_undecided}
use Rattle.e3_world.specs.Making.{nothing, open_now, elected_now, attempt_now, and_record, and_send}
use Rattle.e3_world.specs.Messages.{on_message}
use Rattle.e3_world.specs.Moves.{Did, Stepped, Silent, Rose, Move, moves_at, recorded, log_by}
use Rattle.e3_world.specs.Rounds.{count_ack, round_by, round_by_record, round_in_progress}
use Rattle.e3_world.specs.Sound.{WasSent, step_move}
use Rattle.e3_world.specs.Steps.{on_input, step_at}
use Rattle.e3_world.proofs.Pushes.{incarnation_push, life_log_at, log_push}
use Rattle.e3_laws.specs.agreement.Logs.{Attempt, Orderly, FitsAttempt}
use Rattle.e3_laws.specs.agreement.Rows.{Here, IsFromAway, MayTake, Stands}
use Rattle.e3_laws.specs.agreement.Trails.{marks_of, IsMadeMove, MadeAfter, IsMade}
use Rattle.e3_laws.proofs.agreement.Erasing.{face}
use Rattle.e3_laws.proofs.agreement.Facing.{fits_at, note_is, reads_face}
use Rattle.e3_laws.proofs.agreement.Guarding.Leading.{moment_of, open_same}
use Rattle.e3_laws.proofs.agreement.Histories.{made_append}
use Rattle.e3_laws.proofs.agreement.Protocol.Logs.{final_is}
use Rattle.e3_laws.proofs.agreement.Refinement.Following.{moves_here, moves_there}
use Rattle.e3_laws.proofs.agreement.Refinement.Growing.{here}
use Rattle.e3_laws.proofs.agreement.Refinement.Readings.{decision_in}
use Rattle.e3_laws.proofs.agreement.Single.{made_orderly}
use Rattle.e3_laws.proofs.agreement.Telling.{life_steps, stands_before}
use Rattle.e3_laws.proofs.steps.Deciding.{AddsAnswers, step_adds_answers}
use Rattle.e3_laws.proofs.steps.Lists.{fold_last}
use Rattle.e3_laws.proofs.steps.Tests.{same_is}

-- an attempt stands behind no decision
attempt_open : (t : Txn) (all front : List Record) (n : ℕ) (d : Dir) (after : List Record) → Orderly (face t all) → all ≡ front ++ log.Attempt t n d ∷ after → is_undecided t front ≡ true
attempt_open t all front n d after ordered is = by (decision t front) refl
  where
    fits : FitsAttempt n d (face t front) × Orderly (face t front)
    fits = fits_at t all front (log.Attempt t n d) after (Attempt n d) (note_is t (Attempt n d)) ordered is

    by : (o : Option Dir) → decision t front ≡ o → is_undecided t front ≡ true
    by None none = ap is_none none
    by (Some e) some = absurd (fits.0.open_yet e (final_is e (face t front) fits.1 (decision_in e (face t front) (sym (reads_face t front).decides ∙ some))))

-- what records make of a round that stands at an undecided site
abbrev OpenAt : Txn → List Record → Option Round → Type 0
OpenAt t l o = (r : Round) → o ≡ Some r → is_undecided t l ≡ true

record_open : (site : ℕ) (t : Txn) (group : List ℕ) (l : List Record) (was : Option Round) (x : Record) (after : List Record) → Orderly (face t (l ++ x ∷ after)) → OpenAt t l was →
    OpenAt t (l ++ x ∷ []) (round_by_record site t group was x)
record_open site t group l was (log.Attempt u n d) after ordered free = by (same_txn t u) refl
  where
    by : (b : Bool) → same_txn t u ≡ b → OpenAt t (l ++ log.Attempt u n d ∷ []) (round_by_record site t group was (log.Attempt u n d))
    by true same = λ r some.
        open_same t l (log.Attempt u n d ∷ []) refl
        ∙ attempt_open t (l ++ log.Attempt u n d ∷ after) l n d after ordered (ap (λ v. l ++ log.Attempt v n d ∷ after) (sym (same_is t u same)))
    by false other = rw other (λ r some. open_same t l (log.Attempt u n d ∷ []) refl ∙ free r some)
record_open site t group l was (log.Join u n) after ordered free = by (same_txn t u) refl
  where
    by : (b : Bool) → same_txn t u ≡ b → OpenAt t (l ++ log.Join u n ∷ []) (round_by_record site t group was (log.Join u n))
    by true same = rw same (λ r some. absurd (let none : None ≡ Some r = some in cc))
    by false other = rw other (λ r some. open_same t l (log.Join u n ∷ []) refl ∙ free r some)
record_open site t group l was (log.Decision u d) after ordered free = by (same_txn t u) refl
  where
    by : (b : Bool) → same_txn t u ≡ b → OpenAt t (l ++ log.Decision u d ∷ []) (round_by_record site t group was (log.Decision u d))
    by true same = rw same (λ r some. absurd (let none : None ≡ Some r = some in cc))
    by false other = rw other (λ r some. open_same t l (log.Decision u d ∷ []) (rw other refl) ∙ free r some)
record_open site t group l was (log.Vote u ops) after ordered free = λ r some. open_same t l (log.Vote u ops ∷ []) refl ∙ free r some
record_open site t group l was (log.Birth format place weights rows) after ordered free = λ r some. open_same t l (log.Birth format place weights rows ∷ []) refl ∙ free r some
record_open site t group l was (log.Inc inc) after ordered free = λ r some. open_same t l (log.Inc inc ∷ []) refl ∙ free r some

records_open : (site : ℕ) (t : Txn) (group : List ℕ) (l : List Record) (was : Option Round) (rs : List Record) → Orderly (face t (l ++ rs)) → OpenAt t l was →
    OpenAt t (l ++ rs) (fold (round_by_record site t group) was rs)
records_open site t group l was [] ordered free = subst (λ z. OpenAt t z was) (sym (append-nil l)) free
records_open site t group l was (x ∷ rs) ordered free =
    subst (λ z. OpenAt t z (fold (round_by_record site t group) (round_by_record site t group was x) rs)) (append_assoc l (x ∷ []) rs)
    (records_open site t group (l ++ x ∷ []) (round_by_record site t group was x) rs (subst (λ z. Orderly (face t z)) (sym (append_assoc l (x ∷ []) rs)) ordered)
    (record_open site t group l was x rs ordered free))

-- a step with an attempt that another site asked for decides nothing
pre_decides_none : (h : Here) (packet : Packet) (u : Txn) (n : ℕ) (d : Dir) → Stands h → h.at.input ≡ input.Deliver packet → packet.msg ≡ msg.Pre u n d →
    list_any (is_decision h.txn) (step_at h.at).records ≡ false
pre_decides_none h packet u n d s is says = by (open_now h.at u nothing && elected_now h.at u nothing == n) refl
  where
    f : ℕ
    f = packet.«from»

    far : (f == h.at.site) ≡ false
    far = away_of (subst (λ i. IsFromAway h.at.site i) is s.away)
      where
        away_of : IsFromAway h.at.site (input.Deliver packet) → (f == h.at.site) ≡ false
        away_of away = away

    takes : on_input h.at h.at.input nothing ≡ on_pre h.at f u n d nothing
    takes = ap (λ i. on_input h.at i nothing) is ∙ ap (λ z. on_message h.at f z nothing) says

    tried : Bool → Made
    tried b = if b then nothing else and_record (log.Attempt u n d) nothing

    sent_to : (made : Made) → ((and_send h.at f (msg.Ack u n d) made).records ≡ made.records) × ((and_send h.at f (msg.Ack u n d) made).own ≡ made.own)
    sent_to made = rw far (refl, refl)

    whole : (made : Made) → on_pre h.at f u n d nothing ≡ made → made.own ≡ [] → list_any (is_decision h.txn) made.records ≡ false → list_any (is_decision h.txn) (step_at h.at).records ≡ false
    whole made same bare none = let x : AddsAnswers h.at made (step_at h.at) = step_adds_answers h.at made (takes ∙ same) bare in ap (list_any (is_decision h.txn)) x.records ∙ none

    choose : (b : Bool) → (attempt_now h.at u nothing == n) ≡ b → (open_now h.at u nothing && elected_now h.at u nothing == n) ≡ true → list_any (is_decision h.txn) (step_at h.at).records ≡ false
    choose true same test =
        whole (and_send h.at f (msg.Ack u n d) nothing) (rw (test, same) refl) (sent_to nothing).1 (ap (list_any (is_decision h.txn)) (sent_to nothing).0)
    choose false same test =
        whole (and_send h.at f (msg.Ack u n d) (and_record (log.Attempt u n d) nothing)) (rw (test, same) refl) (sent_to (and_record (log.Attempt u n d) nothing)).1
        (ap (list_any (is_decision h.txn)) (sent_to (and_record (log.Attempt u n d) nothing)).0)

    by : (b : Bool) → (open_now h.at u nothing && elected_now h.at u nothing == n) ≡ b → list_any (is_decision h.txn) (step_at h.at).records ≡ false
    by true test = choose (attempt_now h.at u nothing == n) refl test
    by false test = whole nothing (rw test refl) refl refl

-- a step of a site whose round was open leaves it open
step_open : (h : Here) (was : Rounds) → Stands h → Orderly (face h.txn (h.at.life.log ++ (step_at h.at).records)) → OpenAt h.txn h.at.life.log was.now →
    OpenAt h.txn (h.at.life.log ++ (step_at h.at).records) (round_by h.at.site h.txn was (moment_of h.at (step_at h.at))).now
step_open h was s ordered free = by h.at.input refl
  where
    t : Txn
    t = h.txn

    rs : List Record
    rs = (step_at h.at).records

    Goal : Type 0
    Goal = OpenAt h.txn (h.at.life.log ++ (step_at h.at).records) (round_by h.at.site h.txn was (moment_of h.at (step_at h.at))).now

    more : (group : List ℕ) (o : Option Round) → OpenAt t h.at.life.log o → (round_by h.at.site t was (moment_of h.at (step_at h.at))).now ≡ fold (round_by_record h.at.site t group) o rs → Goal
    more group o open_yet now = subst (λ z. OpenAt t (h.at.life.log ++ rs) z) (sym now) (records_open h.at.site t group h.at.life.log o rs ordered open_yet)

    counted : (u : Txn) (f n : ℕ) (d : Dir) → OpenAt t h.at.life.log (if same_txn t u then option_map (λ r. count_ack r f n d) was.now else was.now)
    counted u f n d = go (same_txn t u) was.now free
      where
        go : (b : Bool) (o : Option Round) → OpenAt t h.at.life.log o → OpenAt t h.at.life.log (if b then option_map (λ r. count_ack r f n d) o else o)
        go false o open_yet = open_yet
        go true None open_yet = λ r some. absurd (let none : None ≡ Some r = some in cc)
        go true (Some r) open_yet = λ q some. open_yet r refl

    by_msg : (packet : Packet) → h.at.input ≡ input.Deliver packet → (z : Message) → packet.msg ≡ z → Goal
    by_msg packet is (msg.Pre u n d) says = λ r some.
        open_same t h.at.life.log rs (pre_decides_none h packet u n d s is says)
        ∙ free r (sym (let now : (round_by h.at.site t was (moment_of h.at (step_at h.at))).now ≡ was.now = rw (is, says) refl in now) ∙ some)
    by_msg packet is (msg.Ack u n d) says =
        more was.group (if same_txn t u then option_map (λ r. count_ack r packet.«from» n d) was.now else was.now) (counted u packet.«from» n d) (rw (is, says) refl)
    by_msg packet is (msg.Do u n op) says = more was.group was.now free (rw (is, says) refl)
    by_msg packet is (msg.Done u n inc answer) says = more was.group was.now free (rw (is, says) refl)
    by_msg packet is (msg.Died u n older) says = more was.group was.now free (rw (is, says) refl)
    by_msg packet is (msg.Ask u call) says = more was.group was.now free (rw (is, says) refl)
    by_msg packet is (msg.LastElected u call elected) says = more was.group was.now free (rw (is, says) refl)
    by_msg packet is (msg.Elected u n) says = more was.group was.now free (rw (is, says) refl)
    by_msg packet is (msg.Report u n st attempt) says = more was.group was.now free (rw (is, says) refl)
    by_msg packet is (msg.VoteReq u inc count) says = more was.group was.now free (rw (is, says) refl)
    by_msg packet is (msg.Vote u true) says = more was.group was.now free (rw (is, says) refl)
    by_msg packet is (msg.Vote u false) says = more was.group was.now free (rw (is, says) refl)
    by_msg packet is (msg.Decide u d) says = more was.group was.now free (rw (is, says) refl)

    by : (i : Input) → h.at.input ≡ i → Goal
    by (input.Begin sites) is = more was.group was.now free (rw is refl)
    by (input.Do u op) is = more was.group was.now free (rw is refl)
    by (input.Commit u) is = more was.group was.now free (rw is refl)
    by (input.Cancel u) is = more was.group was.now free (rw is refl)
    by (input.Expire u) is = more was.group was.now free (rw is refl)
    by (input.Elect u group) is = more (if same_txn t u then group else was.group) was.now free (rw is refl)
    by (input.Deliver packet) is = by_msg packet is packet.msg refl

-- the rounds of a site that is up
abbrev pub LifeOpen : ℕ → Life → Type 0
LifeOpen x life = (t : Txn) → OpenAt t life.log (round_in_progress x t life.steps)

step_life : (sc : Scenario) (before : List Move) (x : ℕ) (i : Input) → IsMade sc before → IsMadeMove sc before (step_move sc x (moves_at x before) i) → MayTake x i → WasSent before i → LifeOpen x (life_at (moves_at x before)) →
    LifeOpen x (life_at (moves_at x before ++ step_move sc x (moves_at x before) i ∷ []))
step_life sc before x i made now fits was free t =
    subst (λ (life : Life). OpenAt t life.log (round_in_progress x t life.steps)) (sym (life_steps sc x mine i))
    (subst (λ (w : Rounds). OpenAt t (h.at.life.log ++ (step_at h.at).records) w.now) (sym (fold_last (round_by x t) (record { group = []; now = None }) (life_at mine).steps (moment_of h.at (step_at h.at))))
    (step_open h so_far (stands_before sc before x i made fits was t) ordered (free t)))
  where
    mine : List Move
    mine = moves_at x before

    h : Here
    h = here sc t (marks_of sc t before) x (life_at mine) i

    so_far : Rounds
    so_far = fold (round_by x t) (record { group = []; now = None }) (life_at mine).steps

    m : Move
    m = step_move sc x mine i

    ordered : Orderly (face t ((life_at mine).log ++ (step_at h.at).records))
    ordered =
        let later : IsMade sc (before ++ m ∷ []) = made_append sc [] before (m ∷ []) made (now, tt) in
        subst (λ z. Orderly (face t z))
        (ap log_by (moves_here before m) ∙ log_push mine m ∙ ap (λ z. z ++ recorded m) (sym (life_log_at mine)))
        (made_orderly sc t x (before ++ m ∷ []) later)

fresh : (x : ℕ) (i : Incarnation) (rose : List Record) → i ≡ record { rose = rose; since = [] } → LifeOpen x (life_of i)
fresh x i rose is = subst (λ (z : Incarnation). LifeOpen x (life_of z)) (sym is) (λ t r some. absurd (let none : None ≡ Some r = some in cc))

move_open : (sc : Scenario) (before : List Move) (x : ℕ) (d : Did) → IsMade sc before → IsMadeMove sc before (record { site = x; did = d }) → LifeOpen x (life_at (moves_at x before)) →
    LifeOpen x (life_at (moves_at x before ++ record { site = x; did = d } ∷ []))
move_open sc before x (Stepped s) made now free =
    subst (λ (m : Move). LifeOpen x (life_at (moves_at x before ++ m ∷ []))) (sym now.made)
    (step_life sc before x s.input made (subst (λ (m : Move). IsMadeMove sc before m) now.made now) now.takes now.was_sent free)
move_open sc before x (Silent inputs records) made now free =
    fresh x (incarnation_of (moves_at x before ++ record { site = x; did = Silent inputs records } ∷ [])) (present_log (incarnation_of (moves_at x before)) ++ records)
    (incarnation_push (moves_at x before) (record { site = x; did = Silent inputs records }))
move_open sc before x (Rose inc records) made now free =
    fresh x (incarnation_of (moves_at x before ++ record { site = x; did = Rose inc records } ∷ [])) (present_log (incarnation_of (moves_at x before)) ++ records)
    (incarnation_push (moves_at x before) (record { site = x; did = Rose inc records }))

lives_open : (sc : Scenario) (before rest : List Move) → IsMade sc before → MadeAfter sc before rest → ((x : ℕ) → LifeOpen x (life_at (moves_at x before))) → (x : ℕ) → LifeOpen x (life_at (moves_at x (before ++ rest)))
lives_open sc before [] made more free x = subst (λ z. LifeOpen x (life_at (moves_at x z))) (sym (append-nil before)) (free x)
lives_open sc before (m ∷ rest) made more free x =
    subst (λ z. LifeOpen x (life_at (moves_at x z))) (append_assoc before (m ∷ []) rest)
    (lives_open sc (before ++ m ∷ []) rest (made_append sc [] before (m ∷ []) made (more.0, tt)) more.1 (λ y. now y (cases_eq y m.site)) x)
  where
    now : (y : ℕ) → (y ≡ m.site) ⊎ (y ≡ m.site → ⊥) → LifeOpen y (life_at (moves_at y (before ++ m ∷ [])))
    now y (inl same) =
        subst (λ z. LifeOpen z (life_at (moves_at z (before ++ m ∷ [])))) (sym same)
        (subst (λ z. LifeOpen m.site (life_at z)) (sym (moves_here before m)) (move_open sc before m.site m.did made more.0 (free m.site)))
    now y (inr other) = subst (λ z. LifeOpen y (life_at z)) (sym (moves_there y before m other)) (free y)

-- so it is along each trail whose moves are what their inputs make
pub made_open : (sc : Scenario) (trail : List Move) → IsMade sc trail → (x : ℕ) → LifeOpen x (life_at (moves_at x trail))
made_open sc trail made x = lives_open sc [] trail tt made (λ y t r some. absurd (let none : None ≡ Some r = some in cc)) x
