-- The network goes on to stand for the history with each kind of entry.
use Rattle.std.proofs.Common.{◌≡◌, ◌-◌, ◌+◌, ◌<◌, ◌≤◌, ℕ, suc, Bool, true, false, List, [], ◌∷◌, ◌++◌, append-nil, append_assoc, length, ◌∙◌, ap, sym, subst, refl, map, arith, count_by, length-append}
use Rattle.std.specs.List.{flat_map}
use Rattle.std.proofs.lemmas.Grind.{fold-append}
use Rattle.e3_types.specs.declared.entries.Act.{Act}
use Rattle.e3_types.specs.declared.entries.Act.TheVariants.{Step, Fall, Rise, RiseFall, Miss, Cut, Drop, Parts, Line}
use Rattle.e3_types.specs.declared.entries.Entry.{Entry}
use Rattle.e3_types.specs.declared.entries.Input.{Input}
use Rattle.e3_types.specs.declared.messages.Packet.{Packet}
use Rattle.e3_types.specs.declared.scenarios.Scenario.{Scenario}
use Rattle.e3_world.specs.Fate.{copies_of}
use Rattle.e3_world.specs.Legal.{entry_of, made_by, numbered}
use Rattle.e3_world.specs.Packets.{outs_of, sent, fate_of, is_calm, is_line, lines, parts_of, present_items, step_items, taken, taken_by}
use Rattle.e3_world.proofs.Guards.{lines_push}
use Rattle.e3_net.specs.declared.waiting.Waiting.{Waiting}
use Rattle.e3_net.specs.Traffic.{Traffic, copies_now, sends, sends_all, takes, wait}
use Rattle.e3_net.specs.Stands.{IsNext, NetStands, behind_input, behind_inputs, given, is_quiet, waiting_of, without}
use Rattle.e3_net.specs.Claims.{DropKeeps, FallKeeps, FreshStands, LineKeeps, PartsKeep, QuietKeeps, StepKeeps}
use Rattle.e3_net.proofs.Copies.{Live, without_none}
use Rattle.e3_net.proofs.Climbing.{Climbs, one_other}
use Rattle.e3_net.proofs.Pushing.{numbered_length, numbers_on, sent_push, taken_push, waiting_climbs, waiting_live, waiting_push}
use Rattle.e3_net.proofs.Taking.{Waits, away_by, behind_all_rest, behind_rest, input_sent, input_takes, inputs_sent, inputs_take, taken_was_sent, takes_is}

pub fresh_stands : FreshStands
fresh_stands sc = record {
  luck = refl;
  loss = refl;
  repeat = refl;
  parts = refl;
  calm = refl;
  count = refl;
  waiting = refl;
  numbers = refl;
  untaken = λ number above. refl;
}

pub stands_waits : (sc : Scenario) (h : List Entry) (net : Traffic) → NetStands sc h net → Waits net
stands_waits sc h net was = record {
  climbs = subst (λ k. Climbs 0 net.waiting k) (sym was.count) (subst (λ ws. Climbs 0 ws (length (sent h))) (sym was.waiting) (waiting_climbs sc h was.numbers));
  live = subst Live (sym was.waiting) (waiting_live sc h);
}

-- an entry that sends nothing
record Silent (sc : Scenario) (h : List Entry) (net : Traffic) (e : Entry) (ws : List Waiting) : Type 0 where
  pub sends_none : outs_of e.act ≡ []
  pub takes_these : without (λ n. taken_by n e.act) net.waiting ≡ ws
  pub takes_sent : (n : ℕ) → net.sent < n → taken_by n e.act ≡ 0

silent : (sc : Scenario) (h : List Entry) (net : Traffic) (e : Entry) (ws : List Waiting) (parts : List (List ℕ)) (calm : Bool) →
    NetStands sc h net → Silent sc h net e ws → parts ≡ parts_of sc (h ++ e ∷ []) → calm ≡ is_calm (present_items sc (h ++ e ∷ [])) →
    NetStands sc (h ++ e ∷ []) (record net { waiting = ws; parts = parts; calm = calm })
silent sc h net e ws parts calm was is parts_are calm_is = record {
  luck = was.luck;
  loss = was.loss;
  repeat = was.repeat;
  parts = parts_are;
  calm = calm_is;
  count = was.count ∙ ap length (sym same);
  waiting = sym (waiting_push sc h e ∙ rest);
  numbers = same ∙ was.numbers ∙ ap (numbered 1) (sym same);
  untaken = λ n above. taken_push n h e ∙ (let one : taken n h ≡ 0 = was.untaken n above in let two : taken_by n e.act ≡ 0 = is.takes_sent n above in
      let none : taken n h + taken_by n e.act ≡ 0 = omega (arith, one, two) in none);
}
  where
    same : sent (h ++ e ∷ []) ≡ sent h
    same = sent_push h e ∙ ap (λ l. sent h ++ l) is.sends_none ∙ append-nil (sent h)

    rest : without (λ n. taken_by n e.act) (waiting_of sc h) ++ without (λ n. taken n (h ++ e ∷ [])) (map (given sc h) (outs_of e.act)) ≡ ws
    rest =
        ap (λ ps. without (λ n. taken_by n e.act) (waiting_of sc h) ++ without (λ n. taken n (h ++ e ∷ [])) (map (given sc h) ps)) is.sends_none
        ∙ append-nil (without (λ n. taken_by n e.act) (waiting_of sc h))
        ∙ ap (without (λ n. taken_by n e.act)) (sym was.waiting)
        ∙ is.takes_these

-- the act is none of the parts
abbrev stays : Act → Bool
stays (Parts parts) = false
stays _ = true

-- the parts and the step of one more entry
parts_stay : (sc : Scenario) (h : List Entry) (owner : ℕ) (act : Act) → stays act ≡ true → parts_of sc (h ++ record { owner = owner; act = act } ∷ []) ≡ parts_of sc h
parts_stay sc h owner (Step i records outs told) is = fold-append _ _ h (record { owner = owner; act = Step i records outs told } ∷ [])
parts_stay sc h owner (Fall inputs records why) is = fold-append _ _ h (record { owner = owner; act = Fall inputs records why } ∷ [])
parts_stay sc h owner (Rise kept inc) is = fold-append _ _ h (record { owner = owner; act = Rise kept inc } ∷ [])
parts_stay sc h owner (RiseFall kept inc why) is = fold-append _ _ h (record { owner = owner; act = RiseFall kept inc why } ∷ [])
parts_stay sc h owner Miss is = fold-append _ _ h (record { owner = owner; act = Miss } ∷ [])
parts_stay sc h owner Cut is = fold-append _ _ h (record { owner = owner; act = Cut } ∷ [])
parts_stay sc h owner (Drop number) is = fold-append _ _ h (record { owner = owner; act = Drop number } ∷ [])
parts_stay sc h owner (Line number) is = fold-append _ _ h (record { owner = owner; act = Line number } ∷ [])
parts_stay sc h owner (Parts parts) is = absurd cc

items_stay : (sc : Scenario) (h : List Entry) (e : Entry) → count_by is_line (e ∷ []) ≡ 0 → present_items sc (h ++ e ∷ []) ≡ present_items sc h
items_stay sc h e none = ap (step_items sc) (lines_push h e ∙ (let same : lines h + count_by is_line (e ∷ []) ≡ lines h = omega (arith, none) in same))

-- an entry that sends nothing and is neither a line nor of the parts
quietly : (sc : Scenario) (h : List Entry) (net : Traffic) (owner : ℕ) (act : Act) (ws : List Waiting) → NetStands sc h net →
    stays act ≡ true → count_by is_line (record { owner = owner; act = act } ∷ []) ≡ 0 →
    Silent sc h net (record { owner = owner; act = act }) ws → NetStands sc (h ++ record { owner = owner; act = act } ∷ []) (record net { waiting = ws })
quietly sc h net owner act ws was same none is =
    silent sc h net (record { owner = owner; act = act }) ws net.parts net.calm was is
    (was.parts ∙ sym (parts_stay sc h owner act same))
    (was.calm ∙ ap is_calm (sym (items_stay sc h (record { owner = owner; act = act }) none)))

-- an entry that neither sends nor takes
still : (sc : Scenario) (h : List Entry) (net : Traffic) (owner : ℕ) (act : Act) → NetStands sc h net → outs_of act ≡ [] → ((n : ℕ) → taken_by n act ≡ 0) →
    Silent sc h net (record { owner = owner; act = act }) net.waiting
still sc h net owner act was none untaken = record {
  sends_none = none;
  takes_these = without_none (λ n. taken_by n act) net.waiting (stands_waits sc h net was).live untaken;
  takes_sent = λ n above. untaken n;
}

quiet : (sc : Scenario) (h : List Entry) (net : Traffic) (owner : ℕ) (act : Act) → NetStands sc h net → is_quiet act ≡ true →
    NetStands sc (h ++ record { owner = owner; act = act } ∷ []) net
quiet sc h net owner (Rise kept inc) was is = quietly sc h net owner (Rise kept inc) net.waiting was refl refl (still sc h net owner (Rise kept inc) was refl (λ n. refl))
quiet sc h net owner (RiseFall kept inc why) was is = quietly sc h net owner (RiseFall kept inc why) net.waiting was refl refl (still sc h net owner (RiseFall kept inc why) was refl (λ n. refl))
quiet sc h net owner Miss was is = quietly sc h net owner Miss net.waiting was refl refl (still sc h net owner Miss was refl (λ n. refl))
quiet sc h net owner Cut was is = quietly sc h net owner Cut net.waiting was refl refl (still sc h net owner Cut was refl (λ n. refl))
quiet sc h net owner (Step i records outs told) was is = absurd cc
quiet sc h net owner (Fall inputs records why) was is = absurd cc
quiet sc h net owner (Drop number) was is = absurd cc
quiet sc h net owner (Line number) was is = absurd cc
quiet sc h net owner (Parts parts) was is = absurd cc

pub quiet_keeps : QuietKeeps
quiet_keeps sc h net e was is = quiet sc h net e.owner e.act was is

pub line_keeps : LineKeeps
line_keeps sc h net owner number was =
    silent sc h net e net.waiting net.parts (is_calm (step_items sc (suc (lines h)))) was (still sc h net owner (Line number) was refl (λ n. refl))
    (was.parts ∙ sym (parts_stay sc h owner (Line number) refl))
    (ap (λ k. is_calm (step_items sc k)) (sym (lines_push h e ∙ (let one : lines h + 1 ≡ suc (lines h) = omega arith in one))))
  where
    e : Entry
    e = record { owner = owner; act = Line number }

pub parts_keep : PartsKeep
parts_keep sc h net owner parts was =
    silent sc h net e net.waiting parts net.calm was (still sc h net owner (Parts parts) was refl (λ n. refl))
    (sym (fold-append _ _ h (e ∷ [])))
    (was.calm ∙ ap is_calm (sym (items_stay sc h e refl)))
  where
    e : Entry
    e = record { owner = owner; act = Parts parts }

pub fall_keeps : FallKeeps
fall_keeps sc h net owner inputs records why was next =
    subst (NetStands sc (h ++ record { owner = owner; act = Fall inputs records why } ∷ [])) (sym (behind_all_rest net inputs))
    (quietly sc h net owner (Fall inputs records why) (behind_inputs net inputs).waiting was refl refl (record {
      sends_none = refl;
      takes_these = inputs_take net inputs waits next;
      takes_sent = λ n above. inputs_sent net inputs n waits next above;
    }))
  where
    waits : Waits net
    waits = stands_waits sc h net was

pub drop_keeps : DropKeeps
drop_keeps sc h net owner site p was found =
    quietly sc h net owner (Drop p.number) (takes site net).waiting was refl refl (record {
      sends_none = refl;
      takes_these = takes_is site net p waits found;
      takes_sent = λ n above. one_other p.number n (let was_sent : p.number ≤ net.sent = taken_was_sent site net p waits found in omega (arith, was_sent, above));
    })
  where
    waits : Waits net
    waits = stands_waits sc h net was

-- packets that are sent wait behind the others
abbrev behind : Traffic → ℕ → List Waiting → Traffic
behind net count ws = record net { sent = count; waiting = ws }

sends_all_is : (net : Traffic) (outs : List Packet) →
    sends_all net outs ≡ behind net (net.sent + length outs) (net.waiting ++ flat_map (λ p. wait p (copies_now net p)) (numbered (suc net.sent) outs))
sends_all_is net [] =
    ap (λ (k : ℕ). behind net k net.waiting) (let plain : net.sent ≡ net.sent + 0 = omega arith in plain)
    ∙ ap (λ ws. behind net (net.sent + 0) ws) (sym (append-nil net.waiting))
sends_all_is net (p ∷ ps) =
    sends_all_is (sends net p.«from» p.to p.msg) ps
    ∙ ap (λ (k : ℕ). behind net k ((net.waiting ++ wait q (copies_now net q)) ++ rest)) (let plain : suc net.sent + length ps ≡ net.sent + suc (length ps) = omega arith in plain)
    ∙ ap (λ ws. behind net (net.sent + suc (length ps)) ws) (append_assoc net.waiting (wait q (copies_now net q)) rest)
  where
    q : Packet
    q = record p { number = suc net.sent }

    rest : List Waiting
    rest = flat_map (λ p. wait p (copies_now net p)) (numbered (suc (suc net.sent)) ps)

-- none of a new packet was taken
new_wait : (sc : Scenario) (h : List Entry) (t : ℕ → ℕ) (m : ℕ) (outs : List Packet) → ((k : ℕ) → m < k → t k ≡ 0) →
    without t (map (given sc h) (numbered (suc m) outs)) ≡ flat_map (λ p. wait p (copies_of (fate_of sc h p))) (numbered (suc m) outs)
new_wait sc h t m [] none = refl
new_wait sc h t m (p ∷ ps) none =
    let q : Packet = record p { number = suc m } in
    let zero_is : t (suc m) ≡ 0 = none (suc m) (omega arith) in
    let all : copies_of (fate_of sc h q) - t (suc m) ≡ copies_of (fate_of sc h q) = omega (arith, zero_is) in
    ap (λ k. wait q k ++ without t (map (given sc h) (numbered (suc (suc m)) ps))) all
    ∙ ap (λ l. wait q (copies_of (fate_of sc h q)) ++ l) (new_wait sc h t (suc m) ps (λ k above. none k (omega (arith, above))))

same_fates : (sc : Scenario) (h : List Entry) (net : Traffic) (outs : List Packet) → NetStands sc h net →
    flat_map (λ p. wait p (copies_of (fate_of sc h p))) outs ≡ flat_map (λ p. wait p (copies_now net p)) outs
same_fates sc h net outs was = rw (was.parts, was.calm, was.loss, was.repeat, was.luck) refl

pub step_keeps : StepKeeps
step_keeps sc h net owner i records outs told was next =
    subst (NetStands sc (h ++ e ∷ [])) (sym (ap (λ (t : Traffic). sends_all t outs) (behind_rest net i) ∙ sends_all_is (record net { waiting = ws }) outs)) (record {
      luck = was.luck;
      loss = was.loss;
      repeat = was.repeat;
      parts = was.parts ∙ sym (parts_stay sc h owner e.act refl);
      calm = was.calm ∙ ap is_calm (sym (items_stay sc h e refl));
      count = ap (λ k. k + length outs) was.count ∙ sym (ap length (sent_push h e) ∙ length-append (sent h) new ∙ ap (λ k. length (sent h) + k) new_length);
      waiting = sym (waiting_push sc h e ∙ ap (λ l. l ++ without t (map (given sc h) new)) old ∙ ap (λ l. ws ++ l) new_waiting);
      numbers = sent_push h e ∙ numbers_on (sent h) outs was.numbers ∙ ap (numbered 1) (sym (sent_push h e));
      untaken = λ n above. none n (omega (arith, above));
    })
  where
    ws : List Waiting
    ws = (behind_input net i).waiting

    new : List Packet
    new = numbered (suc (length (sent h))) outs

    e : Entry
    e = record { owner = owner; act = Step i records new told }

    t : ℕ → ℕ
    t n = taken n (h ++ e ∷ [])

    waits : Waits net
    waits = stands_waits sc h net was

    old : without (λ n. taken_by n e.act) (waiting_of sc h) ≡ ws
    old = ap (without (away_by i)) (sym was.waiting) ∙ input_takes net i waits next

    none : (n : ℕ) → net.sent < n → t n ≡ 0
    none n above =
        let one : taken n h ≡ 0 = was.untaken n above in
        let two : away_by i n ≡ 0 = input_sent net i n waits next above in
        taken_push n h e ∙ (let both : taken n h + away_by i n ≡ 0 = omega (arith, one, two) in both)

    new_length : length new ≡ length outs
    new_length = numbered_length (suc (length (sent h))) outs

    new_waiting : without t (map (given sc h) new) ≡ flat_map (λ p. wait p (copies_now net p)) (numbered (suc net.sent) outs)
    new_waiting =
        new_wait sc h t (length (sent h)) outs (λ k above. none k (subst (λ m. m < k) (sym was.count) above))
        ∙ same_fates sc h net new was
        ∙ ap (λ (k : ℕ). flat_map (λ p. wait p (copies_now net p)) (numbered (suc k) outs)) (sym was.count)

-- a step as the history has it
pub entered_keeps : (sc : Scenario) (h : List Entry) (net : Traffic) (site : ℕ) (i : Input) → NetStands sc h net → IsNext net i →
    NetStands sc (h ++ entry_of sc h site i ∷ []) (sends_all (behind_input net i) (made_by sc h site i).outs)
entered_keeps sc h net site i was next =
    step_keeps sc h net site i (made_by sc h site i).records (made_by sc h site i).outs (made_by sc h site i).told was next
