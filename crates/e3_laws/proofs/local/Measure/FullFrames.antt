-- How large a frame that did not fit was is nothing to what follows.
use Rattle.std.proofs.Common.{◌≡◌, ◌+◌, ◌==◌, ◌∷◌, ◌++◌, [], ℕ, suc, length, Bool, true, false, List, refl, sym, ap, ◌∙◌, fold, map, if◌then◌else◌, cond}
use Rattle.std.specs.List.{flat_map}
use Rattle.std.proofs.lemmas.List.{map-append}
use Rattle.e3_types.specs.declared.entries.Act.{Act}
use Rattle.e3_types.specs.declared.entries.Act.TheVariants.{Step, Fall, Rise, RiseFall, Miss, Cut, Drop, Parts, Line}
use Rattle.e3_types.specs.declared.entries.Entry.{Entry}
use Rattle.e3_types.specs.declared.entries.Input.{Input}
use Rattle.e3_types.specs.declared.entries.Why.{Why}
use Rattle.e3_types.specs.declared.entries.Why.TheVariants.{Fault, Full}
use Rattle.e3_types.specs.declared.messages.Packet.{Packet}
use Rattle.e3_types.specs.declared.records.Record.{Record}
use Rattle.e3_types.specs.declared.scenarios.Scenario.{Scenario}
use Rattle.e3_world.specs.declared.lives.Made.{Made}
use Rattle.e3_world.specs.Fate.{copies_of, fate_by}
use Rattle.e3_world.specs.Legal.{entry_of, made_by, numbered}
use Rattle.e3_world.specs.Lives.{incarnation_of}
use Rattle.e3_world.specs.Logs.{is_undecided}
use Rattle.e3_world.specs.Steps.{step_of}
use Rattle.e3_world.specs.Moves.{Past, log_by, moves_of, own_entries, past_by, past_of}
use Rattle.e3_world.specs.Packets.{all_sites, is_calm, is_line, lines, outs_of, parts_of, pending, present_items, sent, step_items, taken, taken_by}
use Rattle.e3_net.specs.Stands.{given, given_after, waiting_of, without}
use Rattle.e3_net.proofs.Copies.{without_same}
use Rattle.e3_net.proofs.Pushing.{pending_waits}
use Rattle.e3_laws.specs.steps.Mentions.{begun_in}
use Rattle.e3_laws.specs.local.Measures.{begun, copies_at, down_from, is_open, measure, open_pairs, total}

-- the fall without the numbers of the frame and of the room
abbrev sizeless_why : Why → Why
sizeless_why Fault = Fault
sizeless_why (Full need room) = Full 0 0

abbrev sizeless_act : Act → Act
sizeless_act (Fall inputs records why) = Fall inputs records (sizeless_why why)
sizeless_act act = act

abbrev pub alike : Entry → Entry
alike e = record { owner = e.owner; act = sizeless_act e.act }

-- what is read of entry by entry
folds : {X : Type 0} (f : X → Entry → X) → ((x : X) (e : Entry) → f x (alike e) ≡ f x e) → (h : List Entry) (x : X) → fold f x (map alike h) ≡ fold f x h
folds f same [] x = refl
folds f same (e ∷ h) x = ap (λ y. fold f y (map alike h)) (same x e) ∙ folds f same h (f x e)

flats : {X : Type 0} (f : Entry → List X) → ((e : Entry) → f (alike e) ≡ f e) → (h : List Entry) → flat_map f (map alike h) ≡ flat_map f h
flats f same [] = refl
flats f same (e ∷ h) = ap (λ l. l ++ flat_map f (map alike h)) (same e) ∙ ap (λ l. f e ++ l) (flats f same h)

maps : {X : Type 0} (f : Entry → X) → ((e : Entry) → f (alike e) ≡ f e) → (h : List Entry) → map f (map alike h) ≡ map f h
maps f same [] = refl
maps f same (e ∷ h) = ap (λ x. x ∷ map f (map alike h)) (same e) ∙ ap (λ l. f e ∷ l) (maps f same h)

by_acts : {X : Type 0} (f : Act → X) → ((inputs : List Input) (records : List Record) (why : Why) → f (Fall inputs records (sizeless_why why)) ≡ f (Fall inputs records why)) → (act : Act) → f (sizeless_act act) ≡ f act
by_acts f falls (Fall inputs records why) = falls inputs records why
by_acts f falls (Step i records outs events) = refl
by_acts f falls (Rise kept inc) = refl
by_acts f falls (RiseFall kept inc why) = refl
by_acts f falls Miss = refl
by_acts f falls Cut = refl
by_acts f falls (Drop number) = refl
by_acts f falls (Parts parts) = refl
by_acts f falls (Line number) = refl

folds_by_act : {X : Type 0} (f : X → Entry → X) → ((x : X) (owner : ℕ) (inputs : List Input) (records : List Record) (why : Why) →
    f x (record { owner = owner; act = Fall inputs records (sizeless_why why) }) ≡ f x (record { owner = owner; act = Fall inputs records why })) →
    (h : List Entry) (x : X) → fold f x (map alike h) ≡ fold f x h
folds_by_act f falls h x = folds f (λ y e. by_acts (λ act. f y (record { owner = e.owner; act = act })) (falls y e.owner) e.act) h x

own_alike : (s : ℕ) (h : List Entry) → own_entries s (map alike h) ≡ map alike (own_entries s h)
own_alike s [] = refl
own_alike s (e ∷ h) = by (e.owner == s) refl (own_alike s h)
  where
    by : (b : Bool) → (e.owner == s) ≡ b → own_entries s (map alike h) ≡ map alike (own_entries s h) → own_entries s (map alike (e ∷ h)) ≡ map alike (own_entries s (e ∷ h))
    by true is rest = rw is (ap (λ l. alike e ∷ l) rest)
    by false is rest = rw is rest

past_alike : (sc : Scenario) (s : ℕ) (w : Past) (e : Entry) → past_by sc s w (alike e) ≡ past_by sc s w e
past_alike sc s w e = by_acts (λ act. past_by sc s w (record { owner = e.owner; act = act })) falls e.act
  where
    falls : (inputs : List Input) (records : List Record) (why : Why) →
        past_by sc s w (record { owner = e.owner; act = Fall inputs records (sizeless_why why) }) ≡ past_by sc s w (record { owner = e.owner; act = Fall inputs records why })
    falls inputs records Fault = refl
    falls inputs records (Full need room) = refl

pub moves_alike : (sc : Scenario) (h : List Entry) (s : ℕ) → moves_of sc (map alike h) s ≡ moves_of sc h s
moves_alike sc h s = ap (λ w. w.moves)
    (ap (past_of sc s) (own_alike s h) ∙ folds (past_by sc s) (past_alike sc s) (own_entries s h) _)

pub sent_alike : (h : List Entry) → sent (map alike h) ≡ sent h
sent_alike h = flats (λ e. outs_of e.act) (λ e. by_acts outs_of (λ inputs records why. refl) e.act) h

begun_alike : (h : List Entry) → begun (map alike h) ≡ begun h
begun_alike h = flats (λ e. begun_in e.act) (λ e. by_acts begun_in (λ inputs records why. refl) e.act) h

taken_alike : (n : ℕ) (h : List Entry) → taken n (map alike h) ≡ taken n h
taken_alike n h = ap (fold (λ a b. a + b) 0) (maps (λ e. taken_by n e.act) (λ e. by_acts (taken_by n) (λ inputs records why. refl) e.act) h)

parts_alike : (sc : Scenario) (h : List Entry) → parts_of sc (map alike h) ≡ parts_of sc h
parts_alike sc h = folds_by_act _ (λ w owner inputs records why. refl) h (all_sites sc ∷ [])

lines_alike : (h : List Entry) → lines (map alike h) ≡ lines h
lines_alike h = folds (λ n e. n + cond (is_line e) 1 0) (λ n e. by_acts (λ act. n + cond (is_line (record { owner = e.owner; act = act })) 1 0) (λ inputs records why. refl) e.act) h 0

-- so the packets are the same
given_alike : (sc : Scenario) (h : List Entry) (ps : List Packet) → map (given sc (map alike h)) ps ≡ map (given sc h) ps
given_alike sc h ps =
    ap (λ (parts : List (List ℕ)). map (λ p. record { packet = p; copies = copies_of (fate_by parts (is_calm (present_items sc (map alike h))) sc.loss sc.repeat sc.luck p) }) ps) (parts_alike sc h)
    ∙ ap (λ (n : ℕ). map (λ p. record { packet = p; copies = copies_of (fate_by (parts_of sc h) (is_calm (step_items sc n)) sc.loss sc.repeat sc.luck p) }) ps) (lines_alike h)

given_after_alike : (sc : Scenario) (before h : List Entry) → given_after sc (map alike before) (map alike h) ≡ given_after sc before h
given_after_alike sc before [] = refl
given_after_alike sc before (e ∷ h) =
    ap (λ l. map (given sc (map alike before)) l ++ given_after sc (map alike before ++ alike e ∷ []) (map alike h)) (by_acts outs_of (λ inputs records why. refl) e.act)
    ∙ ap (λ l. l ++ given_after sc (map alike before ++ alike e ∷ []) (map alike h)) (given_alike sc before (outs_of e.act))
    ∙ ap (λ b. map (given sc before) (outs_of e.act) ++ given_after sc b (map alike h)) (sym (map-append alike before (e ∷ [])))
    ∙ ap (λ l. map (given sc before) (outs_of e.act) ++ l) (given_after_alike sc (before ++ e ∷ []) h)

waiting_alike : (sc : Scenario) (h : List Entry) → waiting_of sc (map alike h) ≡ waiting_of sc h
waiting_alike sc h =
    ap (without (λ n. taken n (map alike h))) (given_after_alike sc [] h)
    ∙ without_same (λ n. taken n (map alike h)) (λ n. taken n h) (given_after sc [] h) (λ n. taken_alike n h)

pub pending_alike : (sc : Scenario) (h : List Entry) → pending sc (map alike h) ≡ pending sc h
pending_alike sc h = sym (pending_waits sc (map alike h)) ∙ ap (map (λ w. w.packet)) (waiting_alike sc h) ∙ pending_waits sc h

-- and the steps
pub made_alike : (sc : Scenario) (h : List Entry) (site : ℕ) (i : Input) → made_by sc (map alike h) site i ≡ made_by sc h site i
made_alike sc h site i = ap (λ mine. step_of sc.weights site (incarnation_of mine) i) (moves_alike sc h site)

pub entry_alike : (sc : Scenario) (h : List Entry) (site : ℕ) (i : Input) → entry_of sc (map alike h) site i ≡ entry_of sc h site i
entry_alike sc h site i = let at : List Packet → Made → Entry = λ ps made. record { owner = site; act = Step i made.records (numbered (suc (length ps)) made.outs) made.told } in
    ap (at (sent (map alike h))) (made_alike sc h site i) ∙ ap (λ ps. at ps (made_by sc h site i)) (sent_alike h)

-- and the measure
total_same : {X : Type 0} (f g : X → ℕ) → ((x : X) → f x ≡ g x) → (xs : List X) → total f xs ≡ total g xs
total_same f g same [] = refl
total_same f g same (x ∷ xs) = ap (λ n. n + total f xs) (same x) ∙ ap (λ n. g x + n) (total_same f g same xs)

pairs_alike : (sc : Scenario) (h : List Entry) → open_pairs sc (map alike h) ≡ open_pairs sc h
pairs_alike sc h =
    ap (total (λ t. total (is_open sc (map alike h) t) t.sites)) (begun_alike h)
    ∙ total_same (λ t. total (is_open sc (map alike h) t) t.sites) (λ t. total (is_open sc h t) t.sites)
    (λ t. total_same (is_open sc (map alike h) t) (is_open sc h t) (λ s. ap (λ l. if is_undecided t (log_by l) then 1 else 0) (moves_alike sc h s)) t.sites) (begun h)

pub measure_alike : (sc : Scenario) (h : List Entry) → measure sc (map alike h) ≡ measure sc h
measure_alike sc h =
    ap (λ n. n ∷ down_from 11 (copies_at (waiting_of sc (map alike h)))) (pairs_alike sc h)
    ∙ ap (λ ws. open_pairs sc h ∷ down_from 11 (copies_at ws)) (waiting_alike sc h)
