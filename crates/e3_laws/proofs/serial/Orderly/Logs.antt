-- The records of each transaction come in turn in the log of each site.
use Rattle.std.proofs.Common.{◌≡◌, ◌==◌, ◌++◌, ◌∷◌, [], ℕ, Bool, true, false, List, refl, sym, ap, subst, ◌∙◌, append-nil, fold, eqb-true, eq-eqb, if◌then◌else◌}
use Rattle.std.proofs.lemmas.Bool.{cond-true, cond-false}
use Rattle.std.proofs.lemmas.List.Sums.{fold-append}
use Rattle.e3_types.specs.declared.entries.Entry.{Entry}
use Rattle.e3_types.specs.declared.entries.Input.{Input}
use Rattle.e3_types.specs.declared.records.Record.{Record}
use Rattle.e3_types.specs.declared.scenarios.Scenario.{Scenario}
use Rattle.e3_types.specs.declared.transactions.Txn.{Txn}
use Rattle.e3_world.specs.Given.{IsGiven}
use Rattle.e3_world.specs.Legal.{IsLegal}
use Rattle.e3_world.specs.Moves.{Move, Did, Stepped, Silent, Rose, moves_at, recorded, log_by as records_by, rise_records, trail_of, log_of as records_of}
use Rattle.e3_world.specs.Sound.{step_move, records_in_turn}
use Rattle.e3_world.proofs.Pushes.{life_log_at, log_push}
use Rattle.e3_world.proofs.Trails.{trail_moves}
use Rattle.e3_laws.specs.agreement.Logs.{Note, Orderly}
use Rattle.e3_laws.specs.agreement.Marks.{Mark, behind, log_by, log_of, situation_of}
use Rattle.e3_laws.specs.agreement.Weights.{party_of}
use Rattle.e3_laws.proofs.agreement.Protocol.Keep.{law}
use Rattle.e3_laws.proofs.agreement.Protocol.Shares.{majorities_overlap}
use Rattle.e3_laws.specs.agreement.Rows.{Reads}
use Rattle.e3_laws.specs.agreement.Trails.{marks_in, silent_marks, IsMade, IsMadeMove, MadeAfter}
use Rattle.e3_laws.specs.agreement.Views.{notes_of, leader_of, letters_of}
use Rattle.e3_laws.proofs.agreement.Refinement.Following.{TrailOk, trail_ok, start_ok, moves_here, moves_there}
use Rattle.e3_laws.proofs.agreement.Refinement.Readings.{reads_more, orderly_front}
use Rattle.e3_laws.proofs.agreement.Fitting.{given_fit}
use Rattle.e3_laws.proofs.agreement.Histories.{legal_made}
use Rattle.e3_laws.specs.serial.Turns.{InTurnAfter}
use Rattle.e3_laws.proofs.serial.Orderly.Notes.{TurnsAfter, turns_append, turns_of, own_turns}

-- marks at a site keep the notes before them in front
mark_orderly : (x : ℕ) (l : List Note) (m : Mark) → Orderly (log_by x l m) → Orderly l
mark_orderly x l m = by (m.site == x)
  where
    by : (b : Bool) → Orderly (if b then behind l m.notes else l) → Orderly l
    by true o = orderly_front l m.notes o
    by false o = o

marks_orderly : (x : ℕ) (l : List Note) (marks : List Mark) → Orderly (fold (log_by x) l marks) → Orderly l
marks_orderly x l [] o = o
marks_orderly x l (m ∷ marks) o = mark_orderly x l m (marks_orderly x (log_by x l m) marks o)

own_mark : (l : List Note) (m : Mark) → log_by m.site l m ≡ behind l m.notes
own_mark l m = cond-true (m.site == m.site) (behind l m.notes) l (eq-eqb m.site m.site refl)

-- the records of a step, whose mark stands in order
step_turns : (t : Txn) (x e : ℕ) (rs : List Record) (l : List Note) (records : List Record) (m : Mark) (rest : List Mark) → m.site ≡ x → m.notes ≡ notes_of t e records →
    Reads t rs l → Orderly (fold (log_by x) l (m ∷ rest)) →
    TurnsAfter t rs records × Reads t (rs ++ records) (log_by x l m)
step_turns t x e rs l records m rest here notes reads o =
    let now : log_by x l m ≡ behind l (notes_of t e records) =
    ap (λ s. log_by s l m) (sym here) ∙ own_mark l m ∙ ap (behind l) notes in
    let P : List Note → Type 0 = λ k. Reads t (rs ++ records) k in (
      turns_of t e rs l records reads (subst Orderly now (marks_orderly x (log_by x l m) rest o)),
      subst P (sym now) (reads_more t e rs l records reads),
    )

-- the records of inputs that nobody saw
silent_turns : (sc : Scenario) (t : Txn) (x : ℕ) (mine : List Move) (inputs : List Input) (rs : List Record) (l : List Note) → Reads t rs l →
    Orderly (fold (log_by x) l (silent_marks sc t x mine inputs)) → TurnsAfter t rs (records_in_turn sc x mine inputs)
silent_turns sc t x mine [] rs l reads o = tt
silent_turns sc t x mine (i ∷ inputs) rs l reads o =
    let m : Move = step_move sc x mine i in
    let mark : Mark = record { site = x; notes = notes_of t (leader_of x i) (recorded m); sends = [] } in
    let first = step_turns t x (leader_of x i) rs l (recorded m) mark (silent_marks sc t x (mine ++ m ∷ []) inputs) refl refl reads o in
    turns_append t rs (recorded m) (records_in_turn sc x (mine ++ m ∷ []) inputs) first.0
    (silent_turns sc t x (mine ++ m ∷ []) inputs (rs ++ recorded m) (log_by x l mark) first.1 o)

-- a rise writes nothing of a transaction
rise_turns : (sc : Scenario) (t : Txn) (x inc : ℕ) (rs was : List Record) → TurnsAfter t rs (rise_records sc x inc was)
rise_turns sc t x inc rs [] = (tt, (tt, tt))
rise_turns sc t x inc rs (r ∷ rest) = (tt, tt)

-- the records of a move
move_turns : (sc : Scenario) (t : Txn) (before : List Move) (x : ℕ) (d : Did) (rs : List Record) (l : List Note) → IsMadeMove sc before (record { site = x; did = d }) →
    Reads t rs l → Orderly (fold (log_by x) l (marks_in sc t before (record { site = x; did = d }))) → TurnsAfter t rs (recorded (record { site = x; did = d }))
move_turns sc t before x (Stepped s) rs l made reads o =
    (step_turns t x (leader_of x s.input) rs l s.records (record { site = x; notes = notes_of t (leader_of x s.input) s.records; sends = letters_of t s.outs }) [] refl refl reads o).0
move_turns sc t before x (Silent [] records) rs l made reads o =
    let P : List Record → Type 0 = TurnsAfter t rs in subst P (sym made.1) (rise_turns sc t x made.0 rs (records_by (moves_at x before)))
move_turns sc t before x (Silent (i ∷ inputs) records) rs l made reads o =
    let P : List Record → Type 0 = TurnsAfter t rs in subst P (sym made.made) (silent_turns sc t x (moves_at x before) (i ∷ inputs) rs l reads o)
move_turns sc t before x (Rose inc records) rs l made reads o =
    let P : List Record → Type 0 = TurnsAfter t rs in subst P (sym made) (rise_turns sc t x inc rs (records_by (moves_at x before)))

-- what is carried says how the notes of a site stand
reads_at : (sc : Scenario) (t : Txn) (x : ℕ) (before : List Move) (marks : List Mark) → TrailOk sc t before marks → Reads t (records_by (moves_at x before)) (log_of x marks)
reads_at sc t x before marks ok = let P : List Record → Type 0 = λ l. Reads t l (log_of x marks) in subst P (life_log_at (moves_at x before)) (ok.sites x).reads

orderly_at : (sc : Scenario) (t : Txn) (x : ℕ) (before : List Move) (marks : List Mark) → TrailOk sc t before marks → Orderly (log_of x marks)
orderly_at sc t x before marks ok = (law (party_of sc.weights t) (situation_of marks) (majorities_overlap sc.weights t) ok.reach).orderly x

-- what is carried behind one more move
ok_push : (sc : Scenario) (t : Txn) (before : List Move) (marks : List Mark) (m : Move) → TrailOk sc t before marks → IsMadeMove sc before m →
    TrailOk sc t (before ++ m ∷ []) (marks ++ marks_in sc t before m)
ok_push sc t before marks m ok made =
    let P : List Mark → Type 0 = λ l. TrailOk sc t (before ++ m ∷ []) (marks ++ l) in
    subst P (append-nil (marks_in sc t before m)) (trail_ok sc t before (m ∷ []) marks ok (made, tt)).1

trail_turns : (sc : Scenario) (t : Txn) (x : ℕ) (before rest : List Move) (marks : List Mark) → TrailOk sc t before marks → MadeAfter sc before rest →
    TurnsAfter t (records_by (moves_at x before)) (records_by (moves_at x rest))
trail_turns sc t x before [] marks ok made = tt
trail_turns sc t x before (m ∷ rest) marks ok made =
    by (m.site == x) refl (trail_turns sc t x (before ++ m ∷ []) rest (marks ++ marks_in sc t before m) next made.1)
  where
    next : TrailOk sc t (before ++ m ∷ []) (marks ++ marks_in sc t before m)
    next = ok_push sc t before marks m ok made.0

    here : m.site ≡ x → TurnsAfter t (records_by (moves_at x before)) (recorded m)
    here is =
        let P : ℕ → Type 0 = λ y. TurnsAfter t (records_by (moves_at y before)) (recorded m) in
        subst P is (move_turns sc t before m.site m.did (records_by (moves_at m.site before)) (log_of m.site marks) made.0 (reads_at sc t m.site before marks ok)
        (subst Orderly (fold-append (log_by m.site) [] marks (marks_in sc t before m)) (orderly_at sc t m.site (before ++ m ∷ []) (marks ++ marks_in sc t before m) next)))

    grows : m.site ≡ x → records_by (moves_at x (before ++ m ∷ [])) ≡ records_by (moves_at x before) ++ recorded m
    grows is =
        let P : ℕ → Type 0 = λ y. records_by (moves_at y (before ++ m ∷ [])) ≡ records_by (moves_at y before) ++ recorded m in
        subst P is (ap records_by (moves_here before m) ∙ log_push (moves_at m.site before) m)

    by : (b : Bool) → (m.site == x) ≡ b → TurnsAfter t (records_by (moves_at x (before ++ m ∷ []))) (records_by (moves_at x rest)) →
        TurnsAfter t (records_by (moves_at x before)) (records_by (moves_at x (m ∷ rest)))
    by true is more =
        let same : m.site ≡ x = eqb-true m.site x is in
        let P : List Record → Type 0 = λ l. TurnsAfter t l (records_by (moves_at x rest)) in
        let Q : List Move → Type 0 = λ l. TurnsAfter t (records_by (moves_at x before)) (records_by l) in
        subst Q (sym (cond-true (m.site == x) (m ∷ moves_at x rest) (moves_at x rest) is))
        (turns_append t (records_by (moves_at x before)) (recorded m) (records_by (moves_at x rest)) (here same) (subst P (grows same) more))
    by false is more =
        let other : x ≡ m.site → ⊥ = λ e. let yes : (m.site == x) ≡ true = eq-eqb m.site x (sym e) in absurd cc in
        let P : List Move → Type 0 = λ l. TurnsAfter t (records_by l) (records_by (moves_at x rest)) in
        let Q : List Move → Type 0 = λ l. TurnsAfter t (records_by (moves_at x before)) (records_by l) in
        subst Q (sym (cond-false (m.site == x) (m ∷ moves_at x rest) (moves_at x rest) is)) (subst P (moves_there x before m other) more)

-- in the log of each site of a trail whose moves are what their inputs make
made_turns : (sc : Scenario) (trail : List Move) (x : ℕ) → IsMade sc trail → InTurnAfter [] (records_by (moves_at x trail))
made_turns sc trail x made = own_turns [] (records_by (moves_at x trail)) (λ t. trail_turns sc t x [] trail [] (start_ok sc t) made)

-- and in that of each site of a legal history
pub come_in_turn : (sc : Scenario) (h : List Entry) (site : ℕ) → IsGiven sc → IsLegal sc h → InTurnAfter [] (records_of sc h site)
come_in_turn sc h site given legal =
    let P : List Move → Type 0 = λ l. InTurnAfter [] (records_by l) in
    subst P (trail_moves sc site h) (made_turns sc (trail_of sc h) site (legal_made sc h legal (given_fit sc h given legal)))
