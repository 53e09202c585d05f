-- The decisions that are looked at are those of the logs.
use Rattle.std.proofs.Common.{Option, Some, None, append_assoc, ◌≡◌, inl, inr, ◌∷◌, [], ◌++◌, ◌==◌, ℕ, Bool, true, false, List, fold, refl, sym, ap, subst, ◌∙◌, if◌then◌else◌, eqb-true, append-nil}
use Rattle.std.specs.Prelude.{Contains}
use Rattle.std.specs.List.{flat_map}
use Rattle.e3_types.specs.declared.entries.Entry.{Entry}
use Rattle.e3_types.specs.declared.records.Record.{Record}
use Rattle.e3_types.specs.declared.records.Record.TheVariants as log
use Rattle.e3_types.specs.declared.scenarios.Scenario.{Scenario}
use Rattle.e3_types.specs.declared.transactions.Dir.{Dir}
use Rattle.e3_types.specs.declared.transactions.Txn.{Txn}
use Rattle.e3_types.specs.Sets.{has_site}
use Rattle.e3_world.specs.Moves.{Rose, Move, Tail, Past, own_entries, recorded, rise_records, kept_moves, left_by, moves_of_act, past_by, past_of, log_by, log_of, all_records, trail_of}
use Rattle.e3_world.proofs.Trails.{trail_moves}
use Rattle.e3_laws.specs.agreement.Logs.{IsIn}
use Rattle.e3_laws.proofs.agreement.Protocol.Shares.{in_from_has}
use Rattle.e3_laws.proofs.agreement.Refinement.Agreeing.{put, placed_in}
use Rattle.e3_laws.proofs.agreement.Refinement.Following.{in_from_contains}
use Rattle.e3_laws.proofs.agreement.Refinement.Lists.{in_left, in_right, in_flat_map, has_from_in}
use Rattle.e3_laws.proofs.agreement.Refinement.Voting.{contains_from_in, placed_out}
use Rattle.e3_types.specs.declared.entries.Act.{Act}
use Rattle.e3_types.specs.declared.entries.Act.TheVariants.{Step, Fall, Rise, RiseFall, Miss, Cut, Drop, Parts, Line}
use Rattle.e3_types.specs.declared.entries.Why.{Why}
use Rattle.e3_types.specs.declared.entries.Why.TheVariants.{Fault, Full}
use Rattle.std.proofs.lemmas.List.Concat.{flat_map-append}
use Rattle.e3_judge.specs.declared.logs.Decided.{Decided}
use Rattle.e3_judge.specs.Clashes.{with_owner, owners, decisions_in, nothing_yet, risen, decided_by, decided_at, decisions}

-- an owner stays, and each owner is among them
owner_stays : (s : ℕ) (sites : List ℕ) (e : Entry) → IsIn s sites → IsIn s (with_owner sites e)
owner_stays s sites e k = by (has_site sites e.owner)
  where
    by : (b : Bool) → IsIn s (if b then sites else sites ++ e.owner ∷ [])
    by true = k
    by false = in_left s sites (e.owner ∷ []) k

owners_stay : (s : ℕ) (sites : List ℕ) (h : List Entry) → IsIn s sites → IsIn s (fold with_owner sites h)
owners_stay s sites [] k = k
owners_stay s sites (e ∷ h) k = owners_stay s (with_owner sites e) h (owner_stays s sites e k)

owner_in : (sites : List ℕ) (e : Entry) → IsIn e.owner (with_owner sites e)
owner_in sites e = by (has_site sites e.owner) refl
  where
    by : (b : Bool) → has_site sites e.owner ≡ b → IsIn e.owner (if b then sites else sites ++ e.owner ∷ [])
    by true is = in_from_has e.owner sites is
    by false is = in_right e.owner sites (e.owner ∷ []) (inl refl)

-- a site that owns no entry has none of its own
none_own : (s : ℕ) (sites : List ℕ) (h : List Entry) → (IsIn s (fold with_owner sites h) → ⊥) → own_entries s h ≡ []
none_own s sites [] no_more = refl
none_own s sites (e ∷ h) no_more = by (e.owner == s) refl (none_own s (with_owner sites e) h no_more)
  where
    by : (b : Bool) → (e.owner == s) ≡ b → own_entries s h ≡ [] → (if b then e ∷ own_entries s h else own_entries s h) ≡ []
    by true is rest = absurd (no_more (owners_stay s (with_owner sites e) h (subst (λ z. IsIn z (with_owner sites e)) (eqb-true e.owner s is) (owner_in sites e))))
    by false is rest = rest

-- whose log has a record owns an entry
owns : (sc : Scenario) (h : List Entry) (s : ℕ) (r : Record) → IsIn r (log_of sc h s) → IsIn s (owners h)
owns sc h s r k = by (has_site (owners h) s) refl
  where
    by : (b : Bool) → has_site (owners h) s ≡ b → IsIn s (owners h)
    by true is = in_from_has s (owners h) is
    by false is = absurd (
        let none : own_entries s h ≡ [] = none_own s [] h (λ there. (let has : has_site (owners h) s ≡ true = has_from_in s (owners h) there in cc)) in
        let empty : IsIn r (log_by (past_of sc s []).moves) = subst (λ z. IsIn r (log_by (past_of sc s z).moves)) none k in
        empty)

in_flat : {X Y : Type 0} (f : X → List Y) (x : X) (y : Y) (xs : List X) → IsIn x xs → IsIn y (f x) → IsIn y (flat_map f xs)
in_flat f x y [] k j = absurd k
in_flat {Y = Y} f x y (z ∷ zs) (inl e) j = in_left y (f z) (flat_map f zs) (subst (λ v. IsIn y (f v)) e j)
in_flat f x y (z ∷ zs) (inr k) j = in_right y (f z) (flat_map f zs) (in_flat f x y zs k j)

-- a log's decisions are those that are counted, act by act
abbrev in_tail : Option Tail → List Record
in_tail None = []
in_tail (Some tail) = flat_map decisions_in tail.records

pub record Counts (w : Past) (f : Decided) : Type 0 where
  pub sure : flat_map decisions_in (log_by w.moves) ≡ f.sure
  pub doubted : in_tail w.tail ≡ f.doubted

decisions_of : (moves more : List Move) → flat_map decisions_in (log_by (moves ++ more)) ≡ flat_map decisions_in (log_by moves) ++ flat_map decisions_in (log_by more)
decisions_of moves more = ap (flat_map decisions_in) (flat_map-append recorded moves more) ∙ flat_map-append decisions_in (log_by moves) (log_by more)

-- a rise decides nothing
none_risen : (sc : Scenario) (site inc : ℕ) (was : List Record) → flat_map decisions_in (rise_records sc site inc was) ≡ []
none_risen sc site inc [] = refl
none_risen sc site inc (r ∷ rs) = refl

-- a tail that is kept
kept_counts : (site : ℕ) (w : Past) (f : Decided) (kept : Bool) → Counts w f → flat_map decisions_in (log_by (w.moves ++ kept_moves site kept w.tail)) ≡ (risen f kept).sure
kept_counts site w f kept k = decisions_of w.moves (kept_moves site kept w.tail) ∙ by kept w.tail k.doubted
  where
    by : (b : Bool) (tail : Option Tail) → in_tail tail ≡ f.doubted → flat_map decisions_in (log_by w.moves) ++ flat_map decisions_in (log_by (kept_moves site b tail)) ≡ (risen f b).sure
    by true (Some tail) is =
        ap (λ z. z ++ flat_map decisions_in (tail.records ++ [])) k.sure ∙ ap (λ z. f.sure ++ flat_map decisions_in z) (append-nil tail.records) ∙ ap (λ z. f.sure ++ z) is
    by true None is = ap (λ z. z ++ []) k.sure ∙ ap (λ z. f.sure ++ z) is
    by false tail is = append-nil (flat_map decisions_in (log_by w.moves)) ∙ k.sure

-- what a rise leaves in doubt decides nothing
failed_counts : (sc : Scenario) (site inc : ℕ) (was : List Record) (why : Why) → in_tail (left_by why [] (rise_records sc site inc was)) ≡ []
failed_counts sc site inc was Fault = none_risen sc site inc was
failed_counts sc site inc was (Full need room) = refl

rise_counts : (sc : Scenario) (site : ℕ) (w : Past) (f : Decided) (kept : Bool) (inc : ℕ) → Counts w f → Counts (past_by sc site w (record { owner = site; act = Rise kept inc })) (risen f kept)
rise_counts sc site w f kept inc k = record { sure = by kept; doubted = nothing kept }
  where
    silent : Bool → List Move
    silent b = kept_moves site b w.tail

    records : Bool → List Record
    records b = rise_records sc site inc (log_by (w.moves ++ silent b))

    rose : Bool → List Move
    rose b = record { site = site; did = Rose inc (records b) } ∷ []

    none : (b : Bool) → flat_map decisions_in (log_by (rose b)) ≡ []
    none b = ap (flat_map decisions_in) (append-nil (records b)) ∙ none_risen sc site inc (log_by (w.moves ++ silent b))

    by : (b : Bool) → flat_map decisions_in (log_by (w.moves ++ (silent b ++ rose b))) ≡ (risen f b).sure
    by b =
        ap (λ ms. flat_map decisions_in (log_by ms)) (sym (append_assoc w.moves (silent b) (rose b))) ∙ decisions_of (w.moves ++ silent b) (rose b)
        ∙ ap (λ z. flat_map decisions_in (log_by (w.moves ++ silent b)) ++ z) (none b) ∙ append-nil (flat_map decisions_in (log_by (w.moves ++ silent b))) ∙ kept_counts site w f b k

    nothing : (b : Bool) → [] ≡ (risen f b).doubted
    nothing true = refl
    nothing false = refl

same_counts : (w : Past) (f : Decided) → Counts w f → Counts (record { moves = w.moves ++ []; tail = w.tail }) f
same_counts w f k = record { sure = ap (λ ms. flat_map decisions_in (log_by ms)) (append-nil w.moves) ∙ k.sure; doubted = k.doubted }

act_counts : (sc : Scenario) (site : ℕ) (w : Past) (f : Decided) (act : Act) → Counts w f → Counts (past_by sc site w (record { owner = site; act = act })) (decided_by f act)
act_counts sc site w f (Step i records outs events) k = record {
  sure = decisions_of w.moves (moves_of_act sc site w (Step i records outs events)) ∙ ap (λ z. z ++ flat_map decisions_in (records ++ [])) k.sure ∙ ap (λ z. f.sure ++ flat_map decisions_in z) (append-nil records);
  doubted = k.doubted;
}
act_counts sc site w f (Fall inputs records Fault) k = record { sure = ap (λ ms. flat_map decisions_in (log_by ms)) (append-nil w.moves) ∙ k.sure; doubted = refl }
act_counts sc site w f (Fall inputs records (Full need room)) k = record { sure = ap (λ ms. flat_map decisions_in (log_by ms)) (append-nil w.moves) ∙ k.sure; doubted = refl }
act_counts sc site w f (Rise true inc) k = rise_counts sc site w f true inc k
act_counts sc site w f (Rise false inc) k = rise_counts sc site w f false inc k
act_counts sc site w f (RiseFall true inc why) k = record {
  sure = kept_counts site w f true k;
  doubted = failed_counts sc site inc (log_by (w.moves ++ kept_moves site true w.tail)) why;
}
act_counts sc site w f (RiseFall false inc why) k = record {
  sure = kept_counts site w f false k;
  doubted = failed_counts sc site inc (log_by (w.moves ++ kept_moves site false w.tail)) why;
}
act_counts sc site w f Miss k = same_counts w f k
act_counts sc site w f Cut k = same_counts w f k
act_counts sc site w f (Drop packet) k = same_counts w f k
act_counts sc site w f (Parts parts) k = same_counts w f k
act_counts sc site w f (Line number) k = same_counts w f k

past_counts : (sc : Scenario) (site : ℕ) (mine : List Entry) (w : Past) (f : Decided) → Counts w f → Counts (fold (past_by sc site) w mine) (fold (λ was e. decided_by was e.act) f mine)
past_counts sc site [] w f k = k
past_counts sc site (e ∷ mine) w f k = past_counts sc site mine (past_by sc site w e) (decided_by f e.act) (act_counts sc site w f e.act k)

-- the decisions of a site's log
decided_is : (sc : Scenario) (h : List Entry) (s : ℕ) → flat_map decisions_in (log_of sc h s) ≡ decided_at h s
decided_is sc h s = (past_counts sc s (own_entries s h) (record { moves = []; tail = None }) nothing_yet (record { sure = refl; doubted = refl })).sure

-- a decision that is placed in the trail is looked at
pub looked_at : (sc : Scenario) (h : List Entry) (s : ℕ) (t : Txn) (d : Dir) → Contains (all_records (trail_of sc h)) (record { site = s; entered = log.Decision t d })
    → IsIn (log.Decision t d) (decisions h)
looked_at sc h s t d placed =
    let logged : IsIn (log.Decision t d) (log_of sc h s) =
    subst (λ ms. IsIn (log.Decision t d) (log_by ms)) (trail_moves sc s h)
    (placed_in (trail_of sc h) s (log.Decision t d) (in_from_contains (all_records (trail_of sc h)) (put s (log.Decision t d)) placed)) in
    in_flat (decided_at h) s (log.Decision t d) (owners h) (owns sc h s (log.Decision t d) logged)
    (subst (λ z. IsIn (log.Decision t d) z) (decided_is sc h s) (in_flat decisions_in (log.Decision t d) (log.Decision t d) (log_of sc h s) logged (inl refl)))

only_decisions : (q r : Record) → IsIn q (decisions_in r) → q ≡ r
only_decisions q (log.Decision t d) (inl e) = e
only_decisions q (log.Decision t d) (inr k) = absurd k
only_decisions q (log.Vote t ops) k = absurd k
only_decisions q (log.Join t n) k = absurd k
only_decisions q (log.Attempt t n d) k = absurd k
only_decisions q (log.Birth format site weights rows) k = absurd k
only_decisions q (log.Inc inc) k = absurd k

-- a decision that is looked at is placed in the trail
pub stands_placed : (sc : Scenario) (h : List Entry) (r : Record) → IsIn r (decisions h) → (s : ℕ) × Contains (all_records (trail_of sc h)) (record { site = s; entered = r })
stands_placed sc h r k =
    let site = in_flat_map (decided_at h) r (owners h) k in
    let one = in_flat_map decisions_in r (log_of sc h site.0) (subst (λ z. IsIn r z) (sym (decided_is sc h site.0)) site.2) in
    let logged : IsIn r (log_of sc h site.0) = subst (λ (z : Record). IsIn z (log_of sc h site.0)) (sym (only_decisions r one.0 one.2)) one.1 in (
      site.0,
      contains_from_in (all_records (trail_of sc h)) (put site.0 r)
          (placed_out (trail_of sc h) site.0 r (subst (λ ms. IsIn r (log_by ms)) (sym (trail_moves sc site.0 h)) logged)),
    )
