-- The packets with a copy left, behind one more entry.
use Rattle.std.proofs.Common.{◌≡◌, ◌<◌, ℕ, suc, length, List, [], ◌∷◌, ◌++◌, append_assoc, append-nil, ap, sym, ◌∙◌, take, get_or}
use Rattle.std.proofs.Math.Seq.{take-suc}
use Rattle.e3_types.specs.declared.entries.Entry.{Entry}
use Rattle.e3_types.specs.declared.scenarios.Scenario.{Scenario}
use Rattle.e3_world.specs.Packets.{left_after}
use Rattle.e3_judge.specs.LeftOf.{left_of}

left_push : (sc : Scenario) (all before h : List Entry) (e : Entry) →
    left_after sc all before (h ++ e ∷ []) ≡ left_after sc all before h ++ left_of sc all (before ++ h) e
unfolding left_of
left_push sc all before [] e =
    append-nil (left_of sc all before e) ∙ ap (λ b. left_of sc all b e) (sym (append-nil before))
left_push sc all before (x ∷ h) e =
    ap (λ l. left_of sc all before x ++ l) (left_push sc all (before ++ x ∷ []) h e)
    ∙ sym (append_assoc (left_of sc all before x) (left_after sc all (before ++ x ∷ []) h) (left_of sc all ((before ++ x ∷ []) ++ h) e))
    ∙ ap (λ b. left_after sc all before (x ∷ h) ++ left_of sc all b e) (append_assoc before (x ∷ []) h)

pub left_next : (sc : Scenario) (all h : List Entry) (i : ℕ) (e : Entry) → i < length h → e ≡ get_or h i e →
    left_after sc all [] (take (suc i) h) ≡ left_after sc all [] (take i h) ++ left_of sc all (take i h) e
left_next sc all h i e low is =
    ap (left_after sc all []) (take-suc h i e low ∙ ap (λ x. take i h ++ x ∷ []) (sym is)) ∙ left_push sc all [] (take i h) e
