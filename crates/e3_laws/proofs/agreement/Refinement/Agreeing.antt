-- No two decisions of a transaction differ in a trail whose moves are what their inputs make.
use Rattle.std.proofs.Common.{◌≡◌, ◌⊎◌, inl, inr, ◌∷◌, [], ◌==◌, ℕ, Bool, true, false, List, map, refl, sym, ap, subst, eq-eqb, if◌then◌else◌}
use Rattle.e3_types.specs.declared.records.Record.{Record}
use Rattle.e3_types.specs.declared.records.Record.TheVariants as log
use Rattle.e3_types.specs.declared.scenarios.Scenario.{Scenario}
use Rattle.e3_types.specs.declared.transactions.Dir.{Dir}
use Rattle.e3_types.specs.declared.transactions.Txn.{Txn}
use Rattle.e3_world.specs.Moves.{Move, moves_at, recorded, log_by, Placed, all_records}
use Rattle.e3_world.specs.Safe.{Agrees}
use Rattle.e3_world.proofs.Pushes.{life_log_at}
use Rattle.e3_laws.specs.agreement.Logs.{IsIn, Decision}
use Rattle.e3_laws.specs.agreement.Marks.{log_of, situation_of}
use Rattle.e3_laws.specs.agreement.Weights.{party_of}
use Rattle.e3_laws.proofs.agreement.Protocol.Agree.{agrees}
use Rattle.e3_laws.proofs.agreement.Protocol.Keep.{law}
use Rattle.e3_laws.proofs.agreement.Protocol.Shares.{majorities_overlap}
use Rattle.e3_laws.specs.agreement.Trails.{marks_of, IsMade}
use Rattle.e3_laws.proofs.agreement.Refinement.Lists.{in_map, in_left, in_right, same_from}
use Rattle.e3_laws.proofs.agreement.Refinement.Following.{TrailOk, made_ok, in_from_contains}
use Rattle.e3_laws.proofs.agreement.Protocol.Reached.{in_parts}

-- a record at a site
abbrev pub put : ℕ → Record → Placed
put s r = record { site = s; entered = r }

-- a record that is placed at a site is in the site's log
pub placed_in : (trail : List Move) (s : ℕ) (r : Record) → IsIn (put s r) (all_records trail) → IsIn r (log_by (moves_at s trail))
placed_in [] s r k = absurd k
placed_in (m ∷ trail) s r k =
    go (m.site == s) refl (in_parts (put s r) (map (put m.site) (recorded m)) (all_records trail) k) (λ q. placed_in trail s r q)
  where
    go : (b : Bool) → (m.site == s) ≡ b → IsIn (put s r) (map (put m.site) (recorded m)) ⊎ IsIn (put s r) (all_records trail)
        → (IsIn (put s r) (all_records trail) → IsIn r (log_by (moves_at s trail))) → IsIn r (log_by (if b then m ∷ moves_at s trail else moves_at s trail))
    go true e (inl q) rest =
        let f = in_map (put m.site) (put s r) (recorded m) q in
        in_left r (recorded m) (log_by (moves_at s trail)) (subst (λ z. IsIn z (recorded m)) (sym (ap (λ (p : Placed). p.entered) f.2)) f.1)
    go true e (inr q) rest = in_right r (recorded m) (log_by (moves_at s trail)) (rest q)
    go false e (inl q) rest =
        let f = in_map (put m.site) (put s r) (recorded m) q in
        let same : s ≡ m.site = ap (λ (p : Placed). p.site) f.2 in
        let here : (m.site == s) ≡ true = eq-eqb m.site s (sym same) in
        cc
    go false e (inr q) rest = rest q

-- a decision that is placed in a trail is a note
pub decision_noted : (sc : Scenario) (t : Txn) (trail : List Move) → TrailOk sc t trail (marks_of sc t trail) → (s : ℕ) (d : Dir) → IsIn (put s (log.Decision t d)) (all_records trail)
    → IsIn (Decision d) (log_of s (marks_of sc t trail))
decision_noted sc t trail ok s d k =
    (ok.sites s).reads.keeps t d (same_from t t refl) (subst (λ z. IsIn (log.Decision t d) z) (sym (life_log_at (moves_at s trail))) (placed_in trail s (log.Decision t d) k))

pub made_agrees : (sc : Scenario) (trail : List Move) → IsMade sc trail → Agrees trail
made_agrees sc trail made s u t d e h k =
    let ok : TrailOk sc t trail (marks_of sc t trail) = made_ok sc t trail made in
    agrees (party_of sc.weights t) (situation_of (marks_of sc t trail)) (law (party_of sc.weights t) (situation_of (marks_of sc t trail)) (majorities_overlap sc.weights t) ok.reach) s u d e
    (decision_noted sc t trail ok s d (in_from_contains (all_records trail) (put s (log.Decision t d)) h))
    (decision_noted sc t trail ok u e (in_from_contains (all_records trail) (put u (log.Decision t e)) k))
