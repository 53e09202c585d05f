-- The packets that wait were sent.
use Rattle.std.proofs.Common.{◌≡◌, ◌-◌, inl, inr, ℕ, zero, suc, List, [], ◌∷◌, ◌++◌, ◌∙◌, ap, refl, map}
use Rattle.std.proofs.lemmas.List.{map-append}
use Rattle.e3_types.specs.declared.entries.Entry.{Entry}
use Rattle.e3_types.specs.declared.messages.Packet.{Packet}
use Rattle.e3_types.specs.declared.scenarios.Scenario.{Scenario}
use Rattle.e3_world.specs.Packets.{outs_of, sent}
use Rattle.e3_net.specs.declared.waiting.Waiting.{Waiting}
use Rattle.e3_net.specs.Traffic.{wait}
use Rattle.e3_net.specs.Stands.{given, given_after, without}
use Rattle.e3_laws.proofs.steps.Packets.{Among}

-- the packets of these
abbrev packets : List Waiting → List Packet
packets ws = map (λ w. w.packet) ws

among_right : (p : Packet) (q : Packet) (c : ℕ) (ws : List Waiting) → Among p (packets ws) → Among p (packets (wait q c ++ ws))
among_right p q zero ws has = has
among_right p q (suc c) ws has = inr has

-- what waits without some copies, waits with them
pub with_copies : (f : ℕ → ℕ) (p : Packet) (ws : List Waiting) → Among p (packets (without f ws)) → Among p (packets ws)
with_copies f p [] has = has
with_copies f p (w ∷ ws) has = by (λ more. with_copies f p ws more) (w.copies - f w.packet.number) has
  where
    by : (Among p (packets (without f ws)) → Among p (packets ws)) → (c : ℕ) → Among p (packets (wait w.packet c ++ without f ws)) → Among p (packets (w ∷ ws))
    by rest zero more = inr (rest more)
    by rest (suc c) (inl is) = inl is
    by rest (suc c) (inr more) = inr (rest more)

map_given : (sc : Scenario) (before : List Entry) (ps : List Packet) → map (λ w. w.packet) (map (given sc before) ps) ≡ ps
map_given sc before [] = refl
map_given sc before (p ∷ ps) = ap (λ l. p ∷ l) (map_given sc before ps)

pub given_sent : (sc : Scenario) (before h : List Entry) → map (λ w. w.packet) (given_after sc before h) ≡ sent h
given_sent sc before [] = refl
given_sent sc before (e ∷ h) =
    map-append (λ w. w.packet) (map (given sc before) (outs_of e.act)) (given_after sc (before ++ e ∷ []) h)
    ∙ ap (λ l. l ++ map (λ w. w.packet) (given_after sc (before ++ e ∷ []) h)) (map_given sc before (outs_of e.act))
    ∙ ap (λ l. outs_of e.act ++ l) (given_sent sc (before ++ e ∷ []) h)
