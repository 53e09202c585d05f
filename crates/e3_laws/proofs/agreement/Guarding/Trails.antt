-- What electors know of their elections, and whom they asked for attempts, along a trail whose moves are what their inputs make.
use Rattle.std.proofs.Common.{◌≡◌, ◌⊎◌, inl, inr, ◌∷◌, [], ◌++◌, ◌≤◌, ℕ, true, false, List, Some, None, fold, refl, sym, ap, subst, ◌∙◌, append-nil, append_assoc}
use Rattle.std.proofs.lemmas.Bool.{cases_eq}
use Rattle.std.proofs.lemmas.List.Concat.{flat_map-append}
use Rattle.e3_types.specs.declared.entries.Input.{Input}
use Rattle.e3_types.specs.declared.messages.Message.TheVariants as msg
use Rattle.e3_types.specs.declared.messages.Packet.{Packet}
use Rattle.e3_types.specs.declared.scenarios.Scenario.{Scenario}
use Rattle.e3_types.specs.declared.transactions.Dir.{Dir}
use Rattle.e3_types.specs.declared.transactions.Txn.{Txn}
use Rattle.e3_world.specs.declared.lives.Incarnation.{Incarnation}
use Rattle.e3_world.specs.declared.lives.Life.{Life}
use Rattle.e3_types.specs.declared.records.Record.{Record}
use Rattle.e3_world.specs.Elections.{election_by, election_in_progress}
use Rattle.e3_world.specs.Gatherings.{Election, Elections}
use Rattle.e3_world.specs.Lives.{present_log, incarnation_of, life_of, life_at}
use Rattle.e3_world.specs.Moves.{Did, Stepped, Silent, Rose, Move, moves_at, unnumbered}
use Rattle.e3_world.specs.Sound.{sends, WasSent, step_move}
use Rattle.e3_world.specs.Steps.{step_at}
use Rattle.e3_world.proofs.Pushes.{incarnation_push}
use Rattle.e3_laws.specs.agreement.Logs.{IsIn, Status}
use Rattle.e3_laws.specs.agreement.Marks.{sent_of}
use Rattle.e3_laws.specs.agreement.Rules.{Came, Letter, Word, Yes, No, Elected, Report, Pre, Ack, Decide, Other, letter}
use Rattle.e3_laws.specs.agreement.Rows.{Here, MayTake, Stands}
use Rattle.e3_laws.specs.agreement.Verdicts.{status_in}
use Rattle.e3_laws.specs.agreement.Views.{words_of, letters_in, letters_of}
use Rattle.e3_types.specs.declared.messages.Message.{Message}
use Rattle.e3_types.specs.Same.{same_txn}
use Rattle.e3_laws.proofs.agreement.Refinement.Deciding.{only_word}
use Rattle.e3_laws.proofs.steps.Tests.{same_is}
use Rattle.e3_laws.specs.agreement.Trails.{silent_marks, marks_in, marks_after, marks_of, IsMadeMove, MadeAfter, IsMade}
use Rattle.e3_laws.proofs.agreement.Guarding.Asking.{step_asks}
use Rattle.e3_laws.proofs.agreement.Guarding.Keeping.{step_led}
use Rattle.e3_laws.proofs.agreement.Guarding.Leading.{Led, moment_of}
use Rattle.e3_laws.proofs.agreement.Histories.{made_append}
use Rattle.e3_laws.proofs.agreement.Protocol.Reached.{in_parts}
use Rattle.e3_laws.proofs.agreement.Refinement.Following.{moves_here, moves_there}
use Rattle.e3_laws.proofs.agreement.Refinement.Growing.{here, takes_unnumbered}
use Rattle.e3_laws.proofs.agreement.Refinement.Lists.{in_flat_map, in_left, in_map}
use Rattle.e3_laws.proofs.agreement.Telling.{life_steps, sends_own, stands_before}
use Rattle.e3_laws.proofs.steps.Lists.{fold_last}

-- the marks of a trail with one more move
marks_push : (sc : Scenario) (t : Txn) (before xs : List Move) (m : Move) → marks_after sc t before (xs ++ m ∷ []) ≡ marks_after sc t before xs ++ marks_in sc t (before ++ xs) m
marks_push sc t before [] m = append-nil (marks_in sc t before m) ∙ ap (λ z. marks_in sc t z m) (sym (append-nil before))
marks_push sc t before (x ∷ xs) m =
    ap (λ z. marks_in sc t before x ++ z) (marks_push sc t (before ++ x ∷ []) xs m)
    ∙ sym (append_assoc (marks_in sc t before x) (marks_after sc t (before ++ x ∷ []) xs) (marks_in sc t ((before ++ x ∷ []) ++ xs) m))
    ∙ ap (λ z. (marks_in sc t before x ++ marks_after sc t (before ++ x ∷ []) xs) ++ marks_in sc t z m) (append_assoc before (x ∷ []) xs)

-- what was said stays said
sent_on : (sc : Scenario) (t : Txn) (before : List Move) (m : Move) (q : Letter) → IsIn q (sent_of (marks_of sc t before)) → IsIn q (sent_of (marks_of sc t (before ++ m ∷ [])))
sent_on sc t before m q k =
    subst (λ z. IsIn q (sent_of z)) (sym (marks_push sc t [] before m))
    (subst (λ z. IsIn q z) (sym (flat_map-append _ (marks_of sc t before) (marks_in sc t before m))) (in_left q (sent_of (marks_of sc t before)) (sent_of (marks_in sc t before m)) k))

-- the elections of a site that is up
abbrev pub LifeLeads : ℕ → Life → Type 0
LifeLeads x life = (t : Txn) (e : Election) (n : ℕ) → election_in_progress x life.inc t life.steps ≡ Some e → e.number ≡ Some n → Led t life e.reports n

-- whoever was asked for an attempt of a number above 1 had reported for it to the one who asks
abbrev pub AllReported : Scenario → List Move → Type 0
AllReported sc before = (t : Txn) (q : Letter) (n : ℕ) (d : Dir) → IsIn q (sent_of (marks_of sc t before)) → q.word ≡ Pre n d → 2 ≤ n →
    (st : Status) × (b : ℕ) × Came (sent_of (marks_of sc t before)) q.target q.source (Report n st b)

pub record Guarded (sc : Scenario) (before : List Move) : Type 0 where
  pub leads : (x : ℕ) → LifeLeads x (life_at (moves_at x before))
  pub asked : AllReported sc before

-- a step of a site
step_leads : (sc : Scenario) (before : List Move) (x : ℕ) (i : Input) → IsMade sc before → MayTake x i → WasSent before i → LifeLeads x (life_at (moves_at x before)) →
    LifeLeads x (life_at (moves_at x before ++ step_move sc x (moves_at x before) i ∷ []))
step_leads sc before x i made fits was leads t e n now number =
    subst (λ (life : Life). Led t life e.reports n) (sym (life_steps sc x mine i))
    (step_led h so_far e n s (takes_unnumbered x i fits) refl (λ e n some known. leads t e n some known) later number)
  where
    mine : List Move
    mine = moves_at x before

    h : Here
    h = here sc t (marks_of sc t before) x (life_at mine) i

    s : Stands h
    s = stands_before sc before x i made fits was t

    so_far : Elections
    so_far = fold (election_by x (life_at mine).inc t) (record { calls = 0; now = None }) (life_at mine).steps

    later : (election_by x (life_at mine).inc t so_far (moment_of h.at (step_at h.at))).now ≡ Some e
    later =
        sym (ap (λ (w : Elections). w.now) (fold_last (election_by x (life_at mine).inc t) (record { calls = 0; now = None }) (life_at mine).steps (moment_of h.at (step_at h.at))))
        ∙ subst (λ (life : Life). election_in_progress x life.inc t life.steps ≡ Some e) (life_steps sc x mine i) now

step_reported : (sc : Scenario) (before : List Move) (x : ℕ) (i : Input) → IsMade sc before → MayTake x i → WasSent before i → (t : Txn) (p : Packet) (n : ℕ) (d : Dir) →
    IsIn p (sends (step_move sc x (moves_at x before) i)) → p.msg ≡ msg.Pre t n d → 2 ≤ n → (st : Status) × (b : ℕ) × Came (sent_of (marks_of sc t before)) p.to p.«from» (Report n st b)
step_reported sc before x i made fits was t p n d k says low =
    let f = in_map unnumbered p (step_at h.at).outs k in
    let g = step_asks h (stands_before sc before x i made fits was t) (takes_unnumbered x i fits) f.0 f.1 n d (sym (ap (λ (z : Packet). z.msg) f.2) ∙ says) low in
    let from_here : p.«from» ≡ x = ap (λ (z : Packet). z.«from») f.2 ∙ sends_own sc before x i made fits was t f.0 f.1 in (
      g.0,
      g.1,
      subst (λ y. Came (sent_of (marks_of sc t before)) p.to y (Report n g.0 g.1)) (sym from_here)
          (subst (λ y. Came (sent_of (marks_of sc t before)) y x (Report n g.0 g.1)) (sym (ap (λ (z : Packet). z.to) f.2)) g.2),
    )
  where
    h : Here
    h = here sc t (marks_of sc t before) x (life_at (moves_at x before)) i

-- a life without steps
fresh : (x : ℕ) (i : Incarnation) (rose : List Record) → i ≡ record { rose = rose; since = [] } → LifeLeads x (life_of i)
fresh x i rose is = subst (λ (z : Incarnation). LifeLeads x (life_of z)) (sym is) (λ t e n some. absurd (let none : None ≡ Some e = some in cc))

move_leads : (sc : Scenario) (before : List Move) (x : ℕ) (d : Did) → IsMade sc before → IsMadeMove sc before (record { site = x; did = d }) → LifeLeads x (life_at (moves_at x before)) →
    LifeLeads x (life_at (moves_at x before ++ record { site = x; did = d } ∷ []))
move_leads sc before x (Stepped s) made now leads =
    subst (λ (m : Move). LifeLeads x (life_at (moves_at x before ++ m ∷ []))) (sym now.made) (step_leads sc before x s.input made now.takes now.was_sent leads)
move_leads sc before x (Silent inputs records) made now leads =
    fresh x (incarnation_of (moves_at x before ++ record { site = x; did = Silent inputs records } ∷ [])) (present_log (incarnation_of (moves_at x before)) ++ records)
    (incarnation_push (moves_at x before) (record { site = x; did = Silent inputs records }))
move_leads sc before x (Rose inc records) made now leads =
    fresh x (incarnation_of (moves_at x before ++ record { site = x; did = Rose inc records } ∷ [])) (present_log (incarnation_of (moves_at x before)) ++ records)
    (incarnation_push (moves_at x before) (record { site = x; did = Rose inc records }))

-- the message that has the word
pre_of : (t : Txn) (n : ℕ) (d : Dir) (z : Message) → IsIn (Pre n d) (words_of t z) → z ≡ msg.Pre t n d
pre_of t n d (msg.Pre u k e) j = only_word (λ w. w ≡ Pre n d → msg.Pre u k e ≡ msg.Pre t n d) (same_txn t u) (Pre k e)
    (λ same is. ap (λ v. msg.Pre v k e) (sym (same_is t u same)) ∙ parts k e n d is) (Pre n d) j refl
  where
    parts : (k : ℕ) (e : Dir) (n : ℕ) (d : Dir) → Pre k e ≡ Pre n d → msg.Pre t k e ≡ msg.Pre t n d
    parts k e n d is = let one : k ≡ n = cc in let two : e ≡ d = cc in ap (λ z. msg.Pre t z e) one ∙ ap (λ z. msg.Pre t n z) two
pre_of t n d (msg.Do u k op) j = only_word (λ w. w ≡ Pre n d → msg.Do u k op ≡ msg.Pre t n d) (same_txn t u) Other (λ same is. cc) (Pre n d) j refl
pre_of t n d (msg.Done u k inc answer) j = absurd j
pre_of t n d (msg.Died u k older) j = only_word (λ w. w ≡ Pre n d → msg.Died u k older ≡ msg.Pre t n d) (same_txn t u) No (λ same is. cc) (Pre n d) j refl
pre_of t n d (msg.Ask u call) j = only_word (λ w. w ≡ Pre n d → msg.Ask u call ≡ msg.Pre t n d) (same_txn t u) Other (λ same is. cc) (Pre n d) j refl
pre_of t n d (msg.LastElected u call k) j = only_word (λ w. w ≡ Pre n d → msg.LastElected u call k ≡ msg.Pre t n d) (same_txn t u) Other (λ same is. cc) (Pre n d) j refl
pre_of t n d (msg.Elected u k) j = only_word (λ w. w ≡ Pre n d → msg.Elected u k ≡ msg.Pre t n d) (same_txn t u) (Elected k) (λ same is. cc) (Pre n d) j refl
pre_of t n d (msg.Report u k st attempt) j = only_word (λ w. w ≡ Pre n d → msg.Report u k st attempt ≡ msg.Pre t n d) (same_txn t u) (Report k (status_in st) attempt) (λ same is. cc) (Pre n d) j refl
pre_of t n d (msg.VoteReq u inc count) j = only_word (λ w. w ≡ Pre n d → msg.VoteReq u inc count ≡ msg.Pre t n d) (same_txn t u) Other (λ same is. cc) (Pre n d) j refl
pre_of t n d (msg.Vote u true) j = only_word (λ w. w ≡ Pre n d → msg.Vote u true ≡ msg.Pre t n d) (same_txn t u) Yes (λ same is. cc) (Pre n d) j refl
pre_of t n d (msg.Vote u false) j = only_word (λ w. w ≡ Pre n d → msg.Vote u false ≡ msg.Pre t n d) (same_txn t u) No (λ same is. cc) (Pre n d) j refl
pre_of t n d (msg.Ack u k e) j = only_word (λ w. w ≡ Pre n d → msg.Ack u k e ≡ msg.Pre t n d) (same_txn t u) (Ack k e) (λ same is. cc) (Pre n d) j refl
pre_of t n d (msg.Decide u e) j = only_word (λ w. w ≡ Pre n d → msg.Decide u e ≡ msg.Pre t n d) (same_txn t u) (Decide e) (λ same is. cc) (Pre n d) j refl

-- the packet of a letter
pub packet_of : (t : Txn) (q : Letter) (ps : List Packet) → IsIn q (letters_of t ps) → (p : Packet) × IsIn p ps × (w : Word) × IsIn w (words_of t p.msg) × (q ≡ letter p.«from» p.to w)
packet_of t q ps k =
    let f = in_flat_map (letters_in t) q ps k in
    let g = in_map (letter f.0.«from» f.0.to) q (words_of t f.0.msg) f.2 in
    (f.0, f.1, g.0, g.1, g.2)

pub silent_none : (sc : Scenario) (t : Txn) (x : ℕ) (mine : List Move) (inputs : List Input) (q : Letter) → IsIn q (sent_of (silent_marks sc t x mine inputs)) → ⊥
silent_none sc t x mine [] q k = k
silent_none sc t x mine (i ∷ inputs) q k = silent_none sc t x (mine ++ step_move sc x mine i ∷ []) inputs q k

move_reported : (sc : Scenario) (before : List Move) (x : ℕ) (did : Did) → IsMade sc before → IsMadeMove sc before (record { site = x; did = did }) → (t : Txn) (q : Letter) (n : ℕ) (d : Dir) →
    IsIn q (sent_of (marks_in sc t before (record { site = x; did = did }))) → q.word ≡ Pre n d → 2 ≤ n → (st : Status) × (b : ℕ) × Came (sent_of (marks_of sc t before)) q.target q.source (Report n st b)
move_reported sc before x (Stepped s) made now t q n d k says low = by (in_parts q (letters_of t s.outs) [] k)
  where
    step : (p : Packet) → IsIn p s.outs → p.msg ≡ msg.Pre t n d → (st : Status) × (b : ℕ) × Came (sent_of (marks_of sc t before)) p.to p.«from» (Report n st b)
    step p j is = step_reported sc before x s.input made now.takes now.was_sent t p n d (subst (λ (m : Move). IsIn p (sends m)) now.made j) is low

    by : IsIn q (letters_of t s.outs) ⊎ IsIn q [] → (st : Status) × (b : ℕ) × Came (sent_of (marks_of sc t before)) q.target q.source (Report n st b)
    by (inl j) =
        let f = packet_of t q s.outs j in
        let word : f.2 ≡ Pre n d = sym (ap (λ (z : Letter). z.word) f.4) ∙ says in
        let g = step f.0 f.1 (pre_of t n d f.0.msg (subst (λ w. IsIn w (words_of t f.0.msg)) word f.3)) in
        (g.0, g.1, subst (λ (z : Letter). Came (sent_of (marks_of sc t before)) z.target z.source (Report n g.0 g.1)) (sym f.4) g.2)
    by (inr j) = absurd j
move_reported sc before x (Silent inputs records) made now t q n d k says low = absurd (silent_none sc t x (moves_at x before) inputs q k)
move_reported sc before x (Rose inc records) made now t q n d k says low = absurd k

guarded_on : (sc : Scenario) (before rest : List Move) → IsMade sc before → MadeAfter sc before rest → Guarded sc before → Guarded sc (before ++ rest)
guarded_on sc before [] made more g = subst (Guarded sc) (sym (append-nil before)) g
guarded_on sc before (m ∷ rest) made more g =
    subst (Guarded sc) (append_assoc before (m ∷ []) rest)
    (guarded_on sc (before ++ m ∷ []) rest (made_append sc [] before (m ∷ []) made (more.0, tt)) more.1
    (record { leads = λ x. lead x (cases_eq x m.site); asked = λ t q n d k says low. ask t q n d says low (parts t q k) }))
  where
    lead : (x : ℕ) → (x ≡ m.site) ⊎ (x ≡ m.site → ⊥) → LifeLeads x (life_at (moves_at x (before ++ m ∷ [])))
    lead x (inl same) =
        subst (λ y. LifeLeads y (life_at (moves_at y (before ++ m ∷ [])))) (sym same)
        (subst (λ z. LifeLeads m.site (life_at z)) (sym (moves_here before m)) (move_leads sc before m.site m.did made more.0 (g.leads m.site)))
    lead x (inr other) = subst (λ z. LifeLeads x (life_at z)) (sym (moves_there x before m other)) (g.leads x)

    parts : (t : Txn) (q : Letter) → IsIn q (sent_of (marks_of sc t (before ++ m ∷ []))) → IsIn q (sent_of (marks_of sc t before)) ⊎ IsIn q (sent_of (marks_in sc t before m))
    parts t q k =
        in_parts q (sent_of (marks_of sc t before)) (sent_of (marks_in sc t before m))
        (subst (λ z. IsIn q z) (flat_map-append _ (marks_of sc t before) (marks_in sc t before m)) (subst (λ z. IsIn q (sent_of z)) (marks_push sc t [] before m) k))

    ask : (t : Txn) (q : Letter) (n : ℕ) (d : Dir) → q.word ≡ Pre n d → 2 ≤ n → IsIn q (sent_of (marks_of sc t before)) ⊎ IsIn q (sent_of (marks_in sc t before m)) →
        (st : Status) × (b : ℕ) × Came (sent_of (marks_of sc t (before ++ m ∷ []))) q.target q.source (Report n st b)
    ask t q n d says low (inl old) =
        let f = g.asked t q n d old says low in (f.0, f.1, sent_on sc t before m (letter q.target q.source (Report n f.0 f.1)) f.2)
    ask t q n d says low (inr new) =
        let f = move_reported sc before m.site m.did made more.0 t q n d new says low in (f.0, f.1, sent_on sc t before m (letter q.target q.source (Report n f.0 f.1)) f.2)

-- so it is along each such trail
pub made_guarded : (sc : Scenario) (trail : List Move) → IsMade sc trail → Guarded sc trail
made_guarded sc trail made =
    guarded_on sc [] trail tt made
    (record { leads = λ x t e n some. absurd (let none : None ≡ Some e = some in cc); asked = λ t q n d k. absurd k })
