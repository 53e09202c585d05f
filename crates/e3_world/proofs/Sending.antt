-- What the moves of a trail send is what the history sent, without numbers.
use Rattle.std.proofs.Common.{◌≡◌, ℕ, Bool, true, false, List, [], ◌∷◌, ◌++◌, append-nil, sym, ◌∙◌, ap, refl, map, Option, Some, None}
use Rattle.std.proofs.lemmas.Grind.{flat_map-append}
use Rattle.std.specs.List.{flat_map}
use Rattle.e3_types.specs.declared.entries.Act.{Act}
use Rattle.e3_types.specs.declared.entries.Act.TheVariants.{Step, Fall, Rise, RiseFall, Miss, Cut, Drop, Parts, Line}
use Rattle.e3_types.specs.declared.entries.Entry.{Entry}
use Rattle.e3_types.specs.declared.messages.Packet.{Packet}
use Rattle.e3_types.specs.declared.scenarios.Scenario.{Scenario}
use Rattle.e3_world.specs.Moves.{Past, Tail, own_entries, past_of, moves_of_act, kept_moves, trail_after, trail_of, unnumbered}
use Rattle.e3_world.specs.Packets.{outs_of, sent}
use Rattle.e3_world.specs.Sound.{sends}

-- a tail that is kept sends nothing
kept_sends : (site : ℕ) (kept : Bool) (tail : Option Tail) → flat_map sends (kept_moves site kept tail) ≡ []
kept_sends site true (Some tail) = refl
kept_sends site true None = refl
kept_sends site false tail = refl

act_sends : (sc : Scenario) (site : ℕ) (w : Past) (act : Act) → flat_map sends (moves_of_act sc site w act) ≡ map unnumbered (outs_of act)
act_sends sc site w (Step i records outs events) = append-nil (map unnumbered outs)
act_sends sc site w (Rise kept inc) =
    flat_map-append sends (kept_moves site kept w.tail) (_ ∷ []) ∙ ap (λ l. l ++ []) (kept_sends site kept w.tail)
act_sends sc site w (RiseFall kept inc why) = kept_sends site kept w.tail
act_sends sc site w (Fall inputs records why) = refl
act_sends sc site w Miss = refl
act_sends sc site w Cut = refl
act_sends sc site w (Drop packet) = refl
act_sends sc site w (Parts parts) = refl
act_sends sc site w (Line number) = refl

map-append : (xs ys : List Packet) → map unnumbered (xs ++ ys) ≡ map unnumbered xs ++ map unnumbered ys
map-append [] ys = refl
map-append (x ∷ xs) ys = ap (λ l. unnumbered x ∷ l) (map-append xs ys)

after_sends : (sc : Scenario) (before rest : List Entry) → flat_map sends (trail_after sc before rest) ≡ map unnumbered (sent rest)
after_sends sc before [] = refl
after_sends sc before (e ∷ rest) =
    let w : Past = past_of sc e.owner (own_entries e.owner before) in
    flat_map-append sends (moves_of_act sc e.owner w e.act) (trail_after sc (before ++ e ∷ []) rest)
    ∙ ap (λ l. l ++ flat_map sends (trail_after sc (before ++ e ∷ []) rest)) (act_sends sc e.owner w e.act)
    ∙ ap (λ l. map unnumbered (outs_of e.act) ++ l) (after_sends sc (before ++ e ∷ []) rest)
    ∙ sym (map-append (outs_of e.act) (sent rest))

pub trail_sends : (sc : Scenario) (h : List Entry) → flat_map sends (trail_of sc h) ≡ map unnumbered (sent h)
trail_sends sc h = after_sends sc [] h
