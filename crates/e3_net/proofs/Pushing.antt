-- What one more entry does to the packets of a history.
use Rattle.std.proofs.Common.{◌≡◌, ◌-◌, ◌+◌, if◌then◌else◌, ℕ, suc, List, [], ◌∷◌, ◌++◌, append-nil, append_assoc, length, ◌∙◌, ap, sym, subst, refl, map, filter, fold, arith, nat_lt}
use Rattle.std.proofs.lemmas.List.{map-append}
use Rattle.std.proofs.lemmas.Grind.{fold-append, flat_map-append}
use Rattle.e3_types.specs.declared.entries.Entry.{Entry}
use Rattle.e3_types.specs.declared.messages.Packet.{Packet}
use Rattle.e3_types.specs.declared.scenarios.Scenario.{Scenario}
use Rattle.e3_world.specs.Fate.{copies_of}
use Rattle.e3_world.specs.Legal.{numbered}
use Rattle.e3_world.specs.Packets.{outs_of, sent, fate_of, taken, taken_by, left_after, pending}
use Rattle.e3_net.specs.declared.waiting.Waiting.{Waiting}
use Rattle.e3_net.specs.Traffic.{wait}
use Rattle.e3_net.specs.Stands.{given, given_after, without, waiting_of}
use Rattle.e3_net.proofs.Copies.{Live, live_without, without_append, without_same, without_more, wait_passes}
use Rattle.e3_net.proofs.Climbing.{Climbs, climbs_without, climbs_numbered}

pub sent_push : (h : List Entry) (e : Entry) → sent (h ++ e ∷ []) ≡ sent h ++ outs_of e.act
sent_push h e = flat_map-append (λ e. outs_of e.act) h (e ∷ []) ∙ ap (λ l. sent h ++ l) (append-nil (outs_of e.act))

given_push : (sc : Scenario) (before h : List Entry) (e : Entry) →
    given_after sc before (h ++ e ∷ []) ≡ given_after sc before h ++ map (given sc (before ++ h)) (outs_of e.act)
given_push sc before [] e =
    append-nil (map (given sc before) (outs_of e.act)) ∙ ap (λ b. map (given sc b) (outs_of e.act)) (sym (append-nil before))
given_push sc before (x ∷ h) e =
    ap (λ l. map (given sc before) (outs_of x.act) ++ l) (given_push sc (before ++ x ∷ []) h e)
    ∙ sym (append_assoc (map (given sc before) (outs_of x.act)) (given_after sc (before ++ x ∷ []) h) (map (given sc ((before ++ x ∷ []) ++ h)) (outs_of e.act)))
    ∙ ap (λ b. given_after sc before (x ∷ h) ++ map (given sc b) (outs_of e.act)) (append_assoc before (x ∷ []) h)

pub taken_push : (n : ℕ) (h : List Entry) (e : Entry) → taken n (h ++ e ∷ []) ≡ taken n h + taken_by n e.act
taken_push n h e = ap (fold (λ a b. a + b) 0) (map-append (λ e. taken_by n e.act) h (e ∷ [])) ∙ fold-append (λ a b. a + b) 0 (map (λ e. taken_by n e.act) h) (taken_by n e.act ∷ [])

pub waiting_push : (sc : Scenario) (h : List Entry) (e : Entry) →
    waiting_of sc (h ++ e ∷ []) ≡ without (λ n. taken_by n e.act) (waiting_of sc h)
    ++ without (λ n. taken n (h ++ e ∷ [])) (map (given sc h) (outs_of e.act))
waiting_push sc h e =
    ap (without t) (given_push sc [] h e)
    ∙ without_append t (given_after sc [] h) (map (given sc h) (outs_of e.act))
    ∙ ap (λ l. l ++ without t (map (given sc h) (outs_of e.act)))
    (without_same t (λ n. taken n h + taken_by n e.act) (given_after sc [] h) (λ n. taken_push n h e)
    ∙ without_more (λ n. taken n h) (λ n. taken_by n e.act) (given_after sc [] h))
  where
    t : ℕ → ℕ
    t n = taken n (h ++ e ∷ [])

-- numbers
pub numbered_all : (n : ℕ) (xs ys : List Packet) → numbered n (xs ++ ys) ≡ numbered n xs ++ numbered (n + length xs) ys
numbered_all n [] ys = ap (λ (k : ℕ). numbered k ys) (omega arith)
numbered_all n (x ∷ xs) ys =
    ap (λ l. record x { number = n } ∷ l) (numbered_all (suc n) xs ys)
    ∙ ap (λ (k : ℕ). record x { number = n } ∷ (numbered (suc n) xs ++ numbered k ys)) (omega arith)

pub numbered_again : (n m : ℕ) (xs : List Packet) → numbered n (numbered m xs) ≡ numbered n xs
numbered_again n m [] = refl
numbered_again n m (x ∷ xs) = ap (λ l. record x { number = n } ∷ l) (numbered_again (suc n) (suc m) xs)

pub numbered_length : (n : ℕ) (xs : List Packet) → length (numbered n xs) ≡ length xs
numbered_length n [] = refl
numbered_length n (x ∷ xs) = ap suc (numbered_length (suc n) xs)

pub numbers_on : (all outs : List Packet) → all ≡ numbered 1 all →
    all ++ numbered (suc (length all)) outs ≡ numbered 1 (all ++ numbered (suc (length all)) outs)
numbers_on all outs is =
    ap (λ l. l ++ numbered (suc (length all)) outs) is
    ∙ ap (λ l. numbered 1 all ++ l) (sym (numbered_again (suc (length all)) (suc (length all)) outs))
    ∙ ap (λ (k : ℕ). numbered 1 all ++ numbered k (numbered (suc (length all)) outs)) (let one : suc (length all) ≡ 1 + length all = omega arith in one)
    ∙ sym (numbered_all 1 all (numbered (suc (length all)) outs))

-- the packets given are those sent
map_given : (sc : Scenario) (before : List Entry) (ps : List Packet) → map (λ w. w.packet) (map (given sc before) ps) ≡ ps
map_given sc before [] = refl
map_given sc before (p ∷ ps) = ap (λ l. p ∷ l) (map_given sc before ps)

given_sent : (sc : Scenario) (before h : List Entry) → map (λ w. w.packet) (given_after sc before h) ≡ sent h
given_sent sc before [] = refl
given_sent sc before (e ∷ h) =
    map-append (λ w. w.packet) (map (given sc before) (outs_of e.act)) (given_after sc (before ++ e ∷ []) h)
    ∙ ap (λ l. l ++ map (λ w. w.packet) (given_after sc (before ++ e ∷ []) h)) (map_given sc before (outs_of e.act))
    ∙ ap (λ l. outs_of e.act ++ l) (given_sent sc (before ++ e ∷ []) h)

map_length : (ws : List Waiting) → length ws ≡ length (map (λ w. w.packet) ws)
map_length [] = refl
map_length (w ∷ ws) = ap suc (map_length ws)

-- the packets that wait ascend, up to the number of those sent
pub waiting_climbs : (sc : Scenario) (h : List Entry) → sent h ≡ numbered 1 (sent h) → Climbs 0 (waiting_of sc h) (length (sent h))
waiting_climbs sc h is = climbs_without (λ n. taken n h) 0 (given_after sc [] h) (length (sent h)) (subst (λ k. Climbs 0 (given_after sc [] h) k) many all)
  where
    same : map (λ w. w.packet) (given_after sc [] h) ≡ sent h
    same = given_sent sc [] h

    all : Climbs 0 (given_after sc [] h) (0 + length (given_after sc [] h))
    all = climbs_numbered 0 (given_after sc [] h) (same ∙ is ∙ ap (numbered 1) (sym same))

    many : 0 + length (given_after sc [] h) ≡ length (sent h)
    many = (let plain : 0 + length (given_after sc [] h) ≡ length (given_after sc [] h) = omega arith in plain) ∙ map_length (given_after sc [] h) ∙ ap length same

-- they are those that are pending
pending_outs : (sc : Scenario) (all before : List Entry) (ps : List Packet) →
    map (λ w. w.packet) (without (λ n. taken n all) (map (given sc before) ps))
    ≡ filter (λ p. nat_lt (taken p.number all) (copies_of (fate_of sc before p))) ps
pending_outs sc all before [] = refl
pending_outs sc all before (p ∷ ps) =
    map-append (λ w. w.packet) (wait p (copies_of (fate_of sc before p) - taken p.number all)) (without (λ n. taken n all) (map (given sc before) ps))
    ∙ wait_passes p (copies_of (fate_of sc before p)) (taken p.number all) (map (λ w. w.packet) (without (λ n. taken n all) (map (given sc before) ps)))
    ∙ ap (λ l. if nat_lt (taken p.number all) (copies_of (fate_of sc before p)) then p ∷ l else l) (pending_outs sc all before ps)

pending_left : (sc : Scenario) (all before h : List Entry) →
    map (λ w. w.packet) (without (λ n. taken n all) (given_after sc before h)) ≡ left_after sc all before h
pending_left sc all before [] = refl
pending_left sc all before (e ∷ h) =
    ap (map (λ w. w.packet)) (without_append (λ n. taken n all) (map (given sc before) (outs_of e.act)) (given_after sc (before ++ e ∷ []) h))
    ∙ map-append (λ w. w.packet) (without (λ n. taken n all) (map (given sc before) (outs_of e.act))) (without (λ n. taken n all) (given_after sc (before ++ e ∷ []) h))
    ∙ ap (λ l. l ++ map (λ w. w.packet) (without (λ n. taken n all) (given_after sc (before ++ e ∷ []) h))) (pending_outs sc all before (outs_of e.act))
    ∙ ap (λ l. filter (λ p. nat_lt (taken p.number all) (copies_of (fate_of sc before p))) (outs_of e.act) ++ l) (pending_left sc all (before ++ e ∷ []) h)

pub pending_waits : (sc : Scenario) (h : List Entry) → map (λ w. w.packet) (waiting_of sc h) ≡ pending sc h
pending_waits sc h = pending_left sc h [] h

pub waiting_live : (sc : Scenario) (h : List Entry) → Live (waiting_of sc h)
waiting_live sc h = live_without (λ n. taken n h) (given_after sc [] h)
