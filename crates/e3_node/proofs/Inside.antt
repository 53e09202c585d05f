-- What a node tells of an input, from what is told of the fields inside it, which are what its view shows.
use Rattle.std.proofs.Common.{◌≡◌, ◌↔◌, ◌∙◌, true, false, List, ap, subst, sym}
use Rattle.e3_disk.specs.Meters.{Keeps, Meters}
use Rattle.e3_node.specs.NodeView.{NodeView, disk_of}
use Rattle.e3_node.specs.declared.state.State.{State}
use Rattle.e3_node.specs.site_log.Ends.{IsReason}
use Rattle.e3_types.specs.declared.entries.Entry.{Entry}
use Rattle.e3_types.specs.declared.entries.Input.{Input}
use Rattle.e3_types.specs.declared.entries.Why.{Why}
use Rattle.e3_types.specs.declared.scenarios.Scenario.{Scenario}
use Rattle.e3_world.specs.Items.{is_up_at}
use Rattle.e3_world.specs.Legal.{made_by}
use Rattle.e3_world.specs.Moves.{log_of}

module _ {D : Type 0} (a b : NodeView D) (is : a ≡ b) where
  pub down_shown : {X : Type 0} (h : List Entry) → (X ↔ (is_up_at h a.site ≡ false)) → X ↔ (is_up_at h b.site ≡ false)
  down_shown {X} h told = subst (λ (x : NodeView D). X ↔ (is_up_at h x.site ≡ false)) is told

  pub full_shown : {X Y : Type 0} (h : List Entry) → (is_up_at h a.site ≡ true → X ↔ Y) → is_up_at h b.site ≡ true → X ↔ Y
  full_shown {X} {Y} h told = subst (λ (x : NodeView D). is_up_at h x.site ≡ true → X ↔ Y) is told

  pub disk_shown : (mid new : State D) → disk_of new ≡ disk_of mid → disk_of mid ≡ disk_of a.state → disk_of new ≡ disk_of b.state
  disk_shown mid new same told = same ∙ told ∙ ap (λ (x : NodeView D). disk_of x.state) is

  pub keeps_shown : (meters : D → Meters) (mid new : State D) → disk_of new ≡ disk_of mid → Keeps (meters (disk_of a.state)) (meters (disk_of mid)) →
      Keeps (meters (disk_of b.state)) (meters (disk_of new))
  keeps_shown meters mid new same told =
      subst (λ (x : NodeView D). Keeps (meters (disk_of x.state)) (meters (disk_of new))) is
      (subst (λ (d : D). Keeps (meters (disk_of a.state)) (meters d)) (sym same) told)

  pub reason_shown : (meters : D → Meters) (mid new : State D) → disk_of new ≡ disk_of mid → (sc : Scenario) (h : List Entry) (i : Input) (why : Why) →
      IsReason why (log_of sc h a.site) (made_by sc h a.site i).records (meters (disk_of a.state)) (meters (disk_of mid)) →
      IsReason why (log_of sc h b.site) (made_by sc h b.site i).records (meters (disk_of b.state)) (meters (disk_of new))
  reason_shown meters mid new same sc h i why told =
      subst (λ (x : NodeView D). IsReason why (log_of sc h x.site) (made_by sc h x.site i).records (meters (disk_of x.state)) (meters (disk_of new))) is
      (subst (λ (d : D). IsReason why (log_of sc h a.site) (made_by sc h a.site i).records (meters (disk_of a.state)) (meters d)) (sym same) told)
