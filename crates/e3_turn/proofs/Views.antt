-- Facts on single passes, and what the rule says of two.
use Rattle.std.proofs.Common.{◌≡◌, ◌≢◌, ℕ, zero, suc, ◌+◌, ◌%◌, ◌^◌, ◌<◌, List, [], ◌∷◌, length, set, refl, sym, ap, ◌∙◌, subst, ⊎_elim, arith, eqb, cond, Bool, true, false, true≢false}
use Rattle.std.specs.Prelude.{slice_index, slice_set, Option}
use Rattle.std.proofs.lemmas.Bool.{eqb-true, eq-eqb}
use mathlib.Core.Option.{some, some-injective}
use lib.ListN.{get_elem?}
use Rattle.atomic_table.specs.Table.{State}
use Rattle.atomic_table.proofs.Lists.{at_set}
use Rattle.e3_turn.specs.declared.view.View.{View}
use Rattle.e3_turn.specs.Chronicles.{count_of, IsForeign, IsOwn}
use Rattle.e3_turn.specs.Rule.{total, waiting, turning, has_ticket, choosing, PassFits, Home, HoldsAt}
use Rattle.e3_turn.proofs.Totals.{total_set, two_at}

pub off : false ≡ true → ⊥
off e = true≢false (sym e)

module _ {M : Type 0} where
  pub no_ticket : (v : View M) (t : ℕ) → v.waits ≡ false → has_ticket t v ≡ 0
  no_ticket v t e = ap (λ b. cond b (cond (eqb v.ticket t) 1 0) 0) e

  pub own_ticket : (v : View M) (t : ℕ) → v.waits ≡ true → v.ticket ≡ t → has_ticket t v ≡ 1
  own_ticket v t e h = ap (λ b. cond b (cond (eqb v.ticket t) 1 0) 0) e ∙ ap (λ b. cond b 1 0) (eq-eqb v.ticket t h)

  pub other_ticket : (v : View M) (t : ℕ) → v.ticket ≢ t → has_ticket t v ≡ 0
  other_ticket v t ne = go (eqb v.ticket t) refl v.waits
    where
      go : (b : Bool) → eqb v.ticket t ≡ b → (w : Bool) → cond {A = ℕ} w (cond {A = ℕ} b 1 0) 0 ≡ 0
      go true e w = absurd (ne (eqb-true v.ticket t e))
      go false e true = refl
      go false e false = refl

  pub turn_of : (v : View M) → 0 < turning v → v.has_turn ≡ true
  turn_of v h = go v.has_turn refl
    where
      go : (b : Bool) → v.has_turn ≡ b → v.has_turn ≡ true
      go true e = e
      go false e = absurd (let z : 0 < cond false 1 0 = subst (λ b. 0 < cond b 1 0) e h in omega arith)

  -- a fact on each view, after one of them has changed
  pub each_set : (P : View M → Type 0) (views : List (View M)) (id : ℕ) (w : View M) → ((j : ℕ) (u : View M) → j ≢ id → get_elem? views j ≡ some u → P u) → P w → (j : ℕ) (u : View M) → get_elem? (set views id w) j ≡ some u → P u
  each_set P views id w others mine j u e =
      ⊎_elim (λ (t : (j ≡ id) × (w ≡ u)). subst P t.1 mine) (λ (t : (j ≢ id) × (get_elem? views j ≡ some u)). others j u t.0 t.1) (at_set views id j w u e)

module _ {X M : Type 0} (marks : X → List M) (belongs : M → ℕ → Bool) (last : ℕ) where
  abbrev StateOf : Type 0
  StateOf = State (Option X) (View M)

  abbrev RuleAt : StateOf → ℕ → ℕ → List M → Type 0
  RuleAt s served drawn chronicle = HoldsAt marks belongs last s served drawn chronicle

  -- the first word found, and the second
  pub word0 : (s : StateOf) (served drawn : ℕ) (chronicle : List M) → RuleAt s served drawn chronicle → slice_index s.words 0 ≡ drawn % 2 ^ 64
  word0 s served drawn chronicle k = ap (λ ws. slice_index ws 0) k.words

  pub word1 : (s : StateOf) (served drawn : ℕ) (chronicle : List M) → RuleAt s served drawn chronicle → slice_index s.words 1 ≡ served % 2 ^ 64
  word1 s served drawn chronicle k = ap (λ ws. slice_index ws 1) k.words

  pub same_words : (s : StateOf) (served drawn : ℕ) (chronicle : List M) → RuleAt s served drawn chronicle → slice_set s.words 1 (slice_index s.words 1) ≡ drawn % 2 ^ 64 ∷ served % 2 ^ 64 ∷ []
  same_words s served drawn chronicle k = ap (λ ws. slice_set ws 1 (slice_index ws 1)) k.words

  -- a step that changes nothing but the owner chosen
  pub stays : (s : StateOf) (served drawn : ℕ) (chronicle : List M) → RuleAt s served drawn chronicle → (id : ℕ) (v : View M) (o : ℕ) → get_elem? s.views id ≡ some v
      → RuleAt record { words = s.words; homes = s.homes; views = set s.views id (choosing v o) } served drawn chronicle
  stays s served drawn chronicle k id v o at =
      let w : View M = choosing v o in
      let same = λ (f : View M → ℕ) (e : f w ≡ f v). (let r = total_set f s.views id v w at in let q : total f (set s.views id w) ≡ total f s.views = omega arith in q) in
      let f = k.fits id v at in record {
        words = k.words;
        few = k.few;
        counted = ap (λ n. served + n) (same waiting refl) ∙ k.counted;
        bound = same (λ v. length v.owners) refl ∙ k.bound;
        tickets = λ t a b. same (has_ticket t) refl ∙ k.tickets t a b;
        owners = λ p h. same (λ v. count_of p v.owners) refl ∙ k.owners p h;
        fits = each_set (PassFits belongs last served drawn chronicle) s.views id w (λ j u ne e. k.fits j u e) record { lasts = f.lasts; below = f.below; start = f.start; end = f.end; owns = f.owns; waits = f.waits; now = f.now; whole = f.whole; grown = f.grown; olds = f.olds };
        home = subst (Home marks s.homes chronicle) (sym (same turning refl)) k.home;
      }

  -- who has the turn is one pass
  pub one_turns : (s : StateOf) (served drawn : ℕ) (chronicle : List M) → RuleAt s served drawn chronicle → (i j : ℕ) (u v : View M) → get_elem? s.views i ≡ some u → get_elem? s.views j ≡ some v → u.has_turn ≡ true → v.waits ≡ true → v.ticket ≡ served → v.has_turn ≡ false → ⊥
  one_turns s served drawn chronicle k i j u v at_u at_v turn waits same idle =
      let f = k.fits i u at_u in
      let g = k.fits j v at_v in
      let apart : i ≢ j = λ e. true≢false (sym turn ∙ ap (λ (z : View M). z.has_turn) (some-injective _ _ (sym at_u ∙ ap (get_elem? s.views) e ∙ at_v)) ∙ idle) in
      let a : has_ticket served u ≡ 1 = own_ticket u served (f.waits turn) (f.now turn) in
      let b : has_ticket served v ≡ 1 = own_ticket v served waits same in
      let two = two_at (has_ticket served) s.views i j u v apart at_u at_v in
      let end = g.end waits in
      let once = k.tickets served (omega arith) (omega arith) in
      omega arith

  -- no other pass has an owner of this one
  pub apart : (s : StateOf) (served drawn : ℕ) (chronicle : List M) → RuleAt s served drawn chronicle → (i j : ℕ) (u v : View M) → i ≢ j → get_elem? s.views i ≡ some u → get_elem? s.views j ≡ some v → (o : ℕ) → 0 < count_of o u.owners → 0 < count_of o v.owners → ⊥
  apart s served drawn chronicle k i j u v ne at_u at_v o a b =
      let two = two_at (λ (v : View M). count_of o v.owners) s.views i j u v ne at_u at_v in
      let once = k.owners o ((k.fits i u at_u).below o a) in
      omega arith

  -- marks of the owners of one pass belong to no owner of another
  pub foreign_of : (s : StateOf) (served drawn : ℕ) (chronicle : List M) → RuleAt s served drawn chronicle → (i j : ℕ) (u v : View M) → i ≢ j → get_elem? s.views i ≡ some u → get_elem? s.views j ≡ some v → (m : M) → IsOwn belongs last v.owners m → IsForeign belongs last u.owners m
  foreign_of s served drawn chronicle k i j u v ne at_u at_v m own = ((own.0.0, (k.fits j v at_v).below own.0.0 own.0.1, own.0.2), λ o b. go o b (count_of o u.owners) refl)
    where
      go : (o : ℕ) → belongs m o ≡ true → (n : ℕ) → count_of o u.owners ≡ n → count_of o u.owners ≡ 0
      go o b zero e = e
      go o b (suc n) e = let some_there : 0 < count_of o u.owners = omega arith in absurd (apart s served drawn chronicle k i j u v ne at_u at_v o some_there (own.1 o ((k.fits i u at_u).below o some_there) b))
