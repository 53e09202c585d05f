-- The steps of a turn keep the rule: the opening, draw, look, next.
use Rattle.std.proofs.Common.{◌≡◌, ◌≢◌, inl, inr, ℕ, zero, suc, ◌+◌, ◌%◌, ◌^◌, ◌<◌, ◌≤◌, List, [], ◌∷◌, ◌++◌, length, set, refl, sym, ap, ◌∙◌, subst, ⊎_elim, arith, eqb, cond, Bool, true, false, true≢false, append_assoc}
use Rattle.std.specs.Prelude.{slice_index, slice_set, All, Option, Some, ltb, MatchBool}
use Rattle.std.proofs.lemmas.Bool.{eqb-true, eq-eqb, ltb-true, ltb-false}
use Rattle.std.proofs.lemmas.Bool.Decides.{eqb_tells}
use Rattle.std.proofs.lemmas.List.{append-nil}
use Rattle.std.proofs.lemmas.List.Elements.{All-nil, All-append, All-weaker}
use Rattle.std.proofs.Math.Nat.{mod-add-mod}
use mathlib.Core.Option.{some, none, some-injective, some-ne-none}
use lib.ListN.{get_elem?}
use Rattle.atomic_table.specs.Table.{State, Me, step, Act, keeps, takes, gives, Valid, stepped, carried_after, Allows, opening, rest}
use Rattle.atomic_table.proofs.Lists.{one_turn}
use Rattle.e3_turn.specs.declared.view.View.{View}
use Rattle.e3_turn.specs.Chronicles.{count_of, down_from, IsForeign, IsOwn, ExtendsByOthers, ExtendsByOwners}
use Rattle.e3_turn.specs.Rule.{total, waiting, turning, has_ticket, newcomer, with_ticket, with_turn, at_rest, PassFits, Home, HoldsAt, Holds}
use Rattle.e3_turn.specs.Steps.{drew, looked, Took, Same, passed_on, Rests, Waits, IsServed}
use Rattle.e3_turn.proofs.Totals.{total_set, at_most, two_at, total_le, total_zero, total_some, length-down_from, count_of_above, count_of_below}
use Rattle.e3_turn.proofs.Views.{off, no_ticket, own_ticket, other_ticket, turn_of, each_set, word0, word1, same_words, stays, one_turns, foreign_of}

module _ {X M : Type 0} (marks : X → List M) (belongs : M → ℕ → Bool) (last : ℕ) where
  abbrev StateOf : Type 0
  StateOf = State (Option X) (View M)

  abbrev RuleAt : StateOf → ℕ → ℕ → List M → Type 0
  RuleAt s served drawn chronicle = HoldsAt marks belongs last s served drawn chronicle

  -- the state of a pass between two steps of one call
  abbrev MeOf : Type 0
  MeOf = Me (Option X) (View M)

  pub opens : (x : X) (seen : List M) → last < 2 ^ 32 → marks x ≡ seen → Holds marks belongs last (opening (0 ∷ 0 ∷ []) (Some x ∷ []) (newcomer last seen))
  opens x seen few is = (
    0,
    0,
    seen,
    record {
      words = refl;
      few = few;
      counted = refl;
      bound = omega (arith, length-down_from last);
      tickets = λ t a b. absurd (omega arith);
      owners = λ o h. (let r = count_of_below last o h in omega arith);
      fits = fits;
      home = inl (x, refl, is, refl);
    },
  )
    where
      mine : PassFits belongs last 0 0 seen (newcomer last seen)
      mine = record {
        lasts = λ _. refl;
        below = λ o h. below o h;
        start = λ h. absurd (off h);
        end = λ h. absurd (off h);
        owns = λ h. absurd (off h);
        waits = λ h. absurd (off h);
        now = λ h. absurd (off h);
        whole = λ h. absurd (off h);
        grown = λ _. ([], sym (append-nil seen), All-nil _);
        olds = λ h. absurd (omega (arith, h.0));
      }
        where
          below : (o : ℕ) → 0 < count_of o (down_from last) → o ≤ last
          below o h = go (ltb last o) refl
            where
              go : (b : Bool) → ltb last o ≡ b → o ≤ last
              go true e = absurd (let r = count_of_above last o (ltb-true last o e) in omega arith)
              go false e = ltb-false last o e

      fits : (id : ℕ) (v : View M) → get_elem? (newcomer last seen ∷ []) id ≡ some v → PassFits belongs last 0 0 seen v
      fits zero v e = subst (PassFits belongs last 0 0 seen) (some-injective _ _ e) mine
      fits (suc id) v e = absurd (some-ne-none v (sym e))

  pub draws : (slots id : ℕ) (v : View M) → v.waits ≡ false → v.has_turn ≡ false → 0 < length v.owners
      → Allows (Holds marks belongs last) slots id (v, []) 0 (λ n. (n + 1) % 2 ^ 64) (drew (step slots 0 1 0 none) (v, []))
  draws slots id v rests idle owned s kept one at fit =
      let served = kept.0 in
      let drawn = kept.1 in
      let chronicle = kept.2 in
      let k = kept.3 in
      let w : View M = with_ticket v drawn in
      let f = k.fits id v at in
      let not_yet = total_zero (has_ticket drawn) s.views (λ i u e. unheld u drawn (k.fits i u e).end) in (
        w,
        keeps,
        tt,
        (
          served,
          suc drawn,
          chronicle,
          record {
            words = ap (λ ws. slice_set ws 0 ((slice_index ws 0 + 1) % 2 ^ 64)) k.words ∙ ap (λ n. n ∷ served % 2 ^ 64 ∷ []) (mod-add-mod drawn (2 ^ 64) 1 ∙ ap (λ n. n % 2 ^ 64) (let z : drawn + 1 ≡ suc drawn = omega arith in z));
            few = k.few;
            counted = (let r = total_set waiting s.views id v w at in let a : waiting v ≡ 0 = ap (λ b. cond b 1 0) rests in let b : waiting w ≡ 1 = refl in let c = k.counted in omega arith);
            bound = (let r = total_set (λ v. length v.owners) s.views id v w at in let c = k.bound in omega arith);
            tickets = λ t a b. drawn_once t served (total (has_ticket t) (set s.views id w)) (total (has_ticket t) s.views) drawn (has_ticket t v) (total_set (has_ticket t) s.views id v w at) (no_ticket v t rests) a b (k.tickets t a) (λ e. ap (λ z. total (has_ticket z) s.views) e ∙ not_yet);
            owners = λ p h. (let r = total_set (λ v. count_of p v.owners) s.views id v w at in let c = k.owners p h in omega arith);
            fits = each_set (PassFits belongs last served (suc drawn) chronicle) s.views id w (λ j u ne e. later u (k.fits j u e)) record {
              lasts = f.lasts;
              below = f.below;
              start = λ _. (let c = k.counted in omega arith);
              end = λ _. omega arith;
              owns = λ _. owned;
              waits = λ _. refl;
              now = λ h. absurd (true≢false (sym h ∙ idle));
              whole = λ h. absurd (true≢false (sym h ∙ idle));
              grown = f.grown;
              olds = f.olds;
            };
            home = subst (Home marks s.homes chronicle) (let r = total_set turning s.views id v w at in let q : total turning s.views ≡ total turning (set s.views id w) = omega arith in q) k.home;
          },
        ),
        (drawn, sym (word0 marks belongs last s served drawn chronicle k), refl),
      )
    where
      unheld : (u : View M) (t : ℕ) → (u.waits ≡ true → u.ticket < t) → has_ticket t u ≡ 0
      unheld u t h = go u.waits refl
        where
          go : (b : Bool) → u.waits ≡ b → has_ticket t u ≡ 0
          go true e = other_ticket u t (λ same. let z = h e in omega arith)
          go false e = no_ticket u t e

      later : {served drawn : ℕ} {chronicle : List M} (u : View M) → PassFits belongs last served drawn chronicle u → PassFits belongs last served (suc drawn) chronicle u
      later u f = record { lasts = f.lasts; below = f.below; start = f.start; end = λ h. (let z = f.end h in omega arith); owns = f.owns; waits = f.waits; now = f.now; whole = f.whole; grown = f.grown; olds = f.olds }

      drawn_once : (t served after before drawn own : ℕ) → after + own ≡ before + cond (eqb drawn t) 1 0 → own ≡ 0 → served ≤ t → t < suc drawn → (t < drawn → before ≡ 1) → (t ≡ drawn → before ≡ 0) → after ≡ 1
      drawn_once t served after before drawn own r z a b is none_yet = go (eqb drawn t) refl
        where
          go : (c : Bool) → eqb drawn t ≡ c → after ≡ 1
          go true e = let r' : after + own ≡ before + cond true 1 0 = subst (λ c. after + own ≡ before + cond c 1 0) e r in let q = none_yet (sym (eqb-true drawn t e)) in omega arith
          go false e =
              let r' : after + own ≡ before + cond false 1 0 = subst (λ c. after + own ≡ before + cond c 1 0) e r in
              let ne : t ≢ drawn = λ same. true≢false (sym (eq-eqb drawn t (sym same)) ∙ e) in
              let q = is (omega arith) in omega arith

  -- the pass whose ticket is served
  served_now : (s : StateOf) (served drawn : ℕ) (chronicle : List M) → RuleAt s served drawn chronicle → (id : ℕ) (v : View M) → get_elem? s.views id ≡ some v → v.waits ≡ true → served % 2 ^ 64 ≡ v.ticket % 2 ^ 64 → served ≡ v.ticket
  served_now s served drawn chronicle k id v at waits same =
      let f = k.fits id v at in
      let start = f.start waits in
      let end = f.end waits in
      let owned = total_le waiting (λ (u : View M). length u.owners) s.views (λ i u e. has_one u (k.fits i u e).owns) in
      let a = k.counted in
      let b = k.bound in
      let few = k.few in
      one_turn served v.ticket (2 ^ 64) start (omega arith) same
    where
      has_one : (u : View M) → (u.waits ≡ true → 0 < length u.owners) → waiting u ≤ length u.owners
      has_one u h = go u.waits refl
        where
          go : (b : Bool) → u.waits ≡ b → cond {A = ℕ} b 1 0 ≤ length u.owners
          go true e = let z = h e in omega arith
          go false e = omega arith

  abbrev Looked : StateOf → ℕ → ℕ → View M → Type 0
  Looked s slots id v = (w : View M) × (a : Act (Option X)) × Valid s.homes [] a × Holds marks belongs last (stepped s 1 (slice_index s.words 1) id [] w a) × looked marks belongs (step slots 1 0 0 none) (v, []) (slice_index s.words 1) (w, carried_after [] a)

  -- the value is at home
  takes_it : (slots : ℕ) (s : StateOf) (served drawn : ℕ) (chronicle : List M) → RuleAt s served drawn chronicle → (id : ℕ) (v : View M) → get_elem? s.views id ≡ some v → v.waits ≡ true → v.has_turn ≡ false
      → served ≡ v.ticket → eqb (slice_index s.words 1) (v.ticket % 2 ^ 64) ≡ true → (x : X) → s.homes ≡ some (Some x) ∷ [] → marks x ≡ chronicle → total turning s.views ≡ 0 → Looked s slots id v
  takes_it slots s served drawn chronicle k id v at waits idle mine e x homes is none_turns =
      let f = k.fits id v at in
      let w : View M = with_turn v (marks x) in
      let grown = f.grown (f.owns waits) in
      let same = λ (f : View M → ℕ) (e : f w ≡ f v). (let r = total_set f s.views id v w at in let q : total f (set s.views id w) ≡ total f s.views = omega arith in q) in (
        w,
        takes 0 (Some x),
        ap (λ hs. get_elem? hs 0) homes,
        (
          served,
          drawn,
          chronicle,
          record {
            words = same_words marks belongs last s served drawn chronicle k;
            few = k.few;
            counted = ap (λ n. served + n) (same waiting refl) ∙ k.counted;
            bound = same (λ v. length v.owners) refl ∙ k.bound;
            tickets = λ t a b. same (has_ticket t) refl ∙ k.tickets t a b;
            owners = λ p h. same (λ v. count_of p v.owners) refl ∙ k.owners p h;
            fits = each_set (PassFits belongs last served drawn chronicle) s.views id w (λ j u ne e. k.fits j u e) record {
              lasts = f.lasts;
              below = f.below;
              start = f.start;
              end = f.end;
              owns = f.owns;
              waits = λ _. waits;
              now = λ _. sym mine;
              whole = λ _. is;
              grown = λ _. ([], sym is ∙ sym (append-nil (marks x)), All-nil _);
              olds = f.olds;
            };
            home = inr (ap (λ hs. slice_set hs 0 none) homes, (let r = total_set turning s.views id v w at in let a : turning v ≡ 0 = ap (λ b. cond b 1 0) idle in let b : turning w ≡ 1 = refl in omega arith));
          },
        ),
        subst (λ b. MatchBool b (Took marks belongs (v, []) (w, (0, Some x) ∷ [])) (Same (v, []) (w, (0, Some x) ∷ []))) (sym e)
            (x, refl, subst (λ l. ExtendsByOthers belongs l v.owners v.seen (marks x)) (sym (f.lasts (f.owns waits))) (subst (λ c. ExtendsByOthers belongs last v.owners v.seen c) (sym is) grown)),
      )

  looks_at : (slots : ℕ) (s : StateOf) (served drawn : ℕ) (chronicle : List M) → RuleAt s served drawn chronicle → (id : ℕ) (v : View M) → get_elem? s.views id ≡ some v → v.waits ≡ true → v.has_turn ≡ false
      → (b : Bool) → eqb (slice_index s.words 1) (v.ticket % 2 ^ 64) ≡ b → Looked s slots id v
  looks_at slots s served drawn chronicle k id v at waits idle true e =
      let found : served % 2 ^ 64 ≡ v.ticket % 2 ^ 64 = sym (word1 marks belongs last s served drawn chronicle k) ∙ eqb-true _ _ e in
      let mine = served_now s served drawn chronicle k id v at waits found in
      ⊎_elim
      (λ (h : (x : X) × (s.homes ≡ some (Some x) ∷ []) × (marks x ≡ chronicle) × (total turning s.views ≡ 0)). takes_it slots s served drawn chronicle k id v at waits idle mine e h.0 h.1 h.2 h.3)
      (λ (h : (s.homes ≡ none ∷ []) × (total turning s.views ≡ 1)).
      let t = total_some turning s.views (omega (arith, h.1)) in
      absurd (one_turns marks belongs last s served drawn chronicle k t.at id t.what v t.there at (turn_of t.what t.positive) waits (sym mine) idle))
      k.home
  looks_at slots s served drawn chronicle k id v at waits idle false e =
      let q = stays marks belongs last s served drawn chronicle k id v v.chosen at in (
        v,
        keeps,
        tt,
        (served, drawn, chronicle, record { words = same_words marks belongs last s served drawn chronicle k; few = q.few; counted = q.counted; bound = q.bound; tickets = q.tickets; owners = q.owners; fits = q.fits; home = q.home }),
        subst (λ b. MatchBool b (Took marks belongs (v, []) (v, [])) (Same {X = X} (v, []) (v, []))) (sym e) refl,
      )

  pub looks : (slots id : ℕ) (v : View M) → v.waits ≡ true → v.has_turn ≡ false
      → Allows (Holds marks belongs last) slots id (v, []) 1 (λ n. n) (looked marks belongs (step slots 1 0 0 none) (v, []))
  looks slots id v waits idle s kept one at fit = looks_at slots s kept.0 kept.1 kept.2 kept.3 id v at waits idle (eqb (slice_index s.words 1) (v.ticket % 2 ^ 64)) refl

  pub draws_as : (slots id : ℕ) (me : Me (Option X) (View M)) → Rests me
      → Allows (Holds marks belongs last) slots id me 0 (λ n. (n + 1) % 2 ^ 64) (drew (step slots 0 1 0 none) me)
  draws_as slots id me rests =
      subst (λ (c : List (ℕ × Option X)). Allows (Holds marks belongs last) slots id (me.0, c) 0 (λ n. (n + 1) % 2 ^ 64) (drew (step slots 0 1 0 none) (me.0, c))) (sym rests.carried) (draws slots id me.0 rests.ticket rests.turn rests.owned)

  pub looks_as : (slots id : ℕ) (me : Me (Option X) (View M)) → Waits me
      → Allows (Holds marks belongs last) slots id me 1 (λ n. n) (looked marks belongs (step slots 1 0 0 none) me)
  looks_as slots id me waits =
      subst (λ (c : List (ℕ × Option X)). Allows (Holds marks belongs last) slots id (me.0, c) 1 (λ n. n) (looked marks belongs (step slots 1 0 0 none) (me.0, c))) (sym waits.carried) (looks slots id me.0 waits.ticket waits.turn)

  -- another pass, after the turn has gone on
  others_after : (s : StateOf) (served drawn : ℕ) (chronicle : List M) → RuleAt s served drawn chronicle → (id : ℕ) (v : View M) → get_elem? s.views id ≡ some v → v.waits ≡ true → v.has_turn ≡ true → (now more : List M) → now ≡ v.seen ++ more → All (IsOwn belongs last v.owners) more
      → (j : ℕ) (u : View M) → j ≢ id → get_elem? s.views j ≡ some u → PassFits belongs last (suc served) drawn now u
  others_after s served drawn chronicle k id v at waits turn now more is own j u ne at_u =
      let f = k.fits j u at_u in
      let g = k.fits id v at in record {
        lasts = f.lasts;
        below = f.below;
        start = λ h. later h (f.start h) refl;
        end = f.end;
        owns = f.owns;
        waits = f.waits;
        now = λ h. absurd (lone h);
        whole = λ h. absurd (lone h);
        grown = λ o. (let r = f.grown o in (
          r.0 ++ more,
          is ∙ ap (λ c. c ++ more) (g.whole turn ∙ r.1) ∙ append_assoc u.seen r.0 more,
          All-append (IsForeign belongs last u.owners) r.0 more r.2 (All-weaker (IsOwn belongs last v.owners) (IsForeign belongs last u.owners) (λ m w. foreign_of marks belongs last s served drawn chronicle k j id u v ne at_u at m w) more own),
        ));
        olds = f.olds;
      }
    where
      lone : u.has_turn ≡ true → ⊥
      lone h =
          let two = two_at turning s.views j id u v ne at_u at in
          let a : turning u ≡ 1 = ap (λ b. cond b 1 0) h in
          let b : turning v ≡ 1 = ap (λ b. cond b 1 0) turn in
          ⊎_elim (λ (h : (x : X) × (s.homes ≡ some (Some x) ∷ []) × (marks x ≡ chronicle) × (total turning s.views ≡ 0)). (let z = h.3 in omega arith)) (λ (h : (s.homes ≡ none ∷ []) × (total turning s.views ≡ 1)). (let z = h.1 in omega arith)) k.home

      later : u.waits ≡ true → served ≤ u.ticket → u.ticket ≡ u.ticket → suc served ≤ u.ticket
      later h le same = ⊎_elim
          (λ (t : (eqb u.ticket served ≡ true) × (u.ticket ≡ served)). absurd (
          let two = two_at (has_ticket served) s.views j id u v ne at_u at in
          let g = k.fits id v at in
          let a = own_ticket u served h t.1 in
          let b = own_ticket v served waits (g.now turn) in
          let end = g.end waits in
          let now = g.now turn in
          let once = k.tickets served (omega arith) (omega arith) in omega arith))
          (λ (t : (eqb u.ticket served ≡ false) × (u.ticket ≢ served)). (let ne = t.1 in omega arith))
          (eqb_tells u.ticket served)

  pub passes : (slots id : ℕ) (v : View M) (x : X) → v.waits ≡ true → v.has_turn ≡ true → ExtendsByOwners belongs v.last v.owners v.seen (marks x)
      → Allows (Holds marks belongs last) slots id (v, (0, Some x) ∷ []) 1 (λ n. (n + 1) % 2 ^ 64) (passed_on marks (step slots 1 1 0 none) (v, (0, Some x) ∷ []))
  passes slots id v x waits turn grew s kept one at fit =
      let served = kept.0 in
      let drawn = kept.1 in
      let chronicle = kept.2 in
      let k = kept.3 in
      let f = k.fits id v at in
      let owned = f.owns waits in
      let w : View M = at_rest v (marks x) in
      let grew' : ExtendsByOwners belongs last v.owners v.seen (marks x) = subst (λ l. ExtendsByOwners belongs l v.owners v.seen (marks x)) (f.lasts owned) grew in
      let now = f.now turn in
      let turning_v : turning v ≡ 1 = ap (λ b. cond b 1 0) turn in
      let here = at_most turning s.views id v at in (
        w,
        gives,
        tt,
        (
          suc served,
          drawn,
          marks x,
          record {
            words = ap (λ ws. slice_set ws 1 ((slice_index ws 1 + 1) % 2 ^ 64)) k.words ∙ ap (λ n. drawn % 2 ^ 64 ∷ n ∷ []) (mod-add-mod served (2 ^ 64) 1 ∙ ap (λ n. n % 2 ^ 64) (let z : served + 1 ≡ suc served = omega arith in z));
            few = k.few;
            counted = (let r = total_set waiting s.views id v w at in let a : waiting v ≡ 1 = ap (λ b. cond b 1 0) waits in let b : waiting w ≡ 0 = refl in let c = k.counted in omega arith);
            bound = (let r = total_set (λ v. length v.owners) s.views id v w at in let c = k.bound in omega arith);
            tickets = λ t a b. (let r = total_set (has_ticket t) s.views id v w at in let z = other_ticket v t (λ same. (let q : v.ticket ≡ t = same in omega arith)) in let y : has_ticket t w ≡ 0 = refl in let c = k.tickets t (omega arith) b in omega arith);
            owners = λ p h. (let r = total_set (λ v. count_of p v.owners) s.views id v w at in let c = k.owners p h in omega arith);
            fits = each_set (PassFits belongs last (suc served) drawn (marks x)) s.views id w (others_after s served drawn chronicle k id v at waits turn (marks x) grew'.0 grew'.1 grew'.2) record {
              lasts = f.lasts;
              below = f.below;
              start = λ h. absurd (off h);
              end = λ h. absurd (off h);
              owns = λ h. absurd (off h);
              waits = λ h. absurd (off h);
              now = λ h. absurd (off h);
              whole = λ h. absurd (off h);
              grown = λ _. ([], sym (append-nil (marks x)), All-nil _);
              olds = f.olds;
            };
            home = ⊎_elim
                (λ (h : (x : X) × (s.homes ≡ some (Some x) ∷ []) × (marks x ≡ chronicle) × (total turning s.views ≡ 0)). absurd (let z = h.3 in omega arith))
                (λ (h : (s.homes ≡ none ∷ []) × (total turning s.views ≡ 1)). inl (x, ap (λ hs. slice_set hs 0 (some (Some x))) h.0, refl, (let r = total_set turning s.views id v w at in let b : turning w ≡ 0 = refl in let z = h.1 in omega arith)))
                k.home;
          },
        ),
        refl,
      )

  pub passes_as : (slots id : ℕ) (me : Me (Option X) (View M)) (x : X) → me.1 ≡ (0, Some x) ∷ [] → me.0.waits ≡ true → me.0.has_turn ≡ true → ExtendsByOwners belongs me.0.last me.0.owners me.0.seen (marks x)
      → Allows (Holds marks belongs last) slots id me 1 (λ n. (n + 1) % 2 ^ 64) (passed_on marks (step slots 1 1 0 none) me)
  passes_as slots id me x has waits turn grew =
      subst (λ (c : List (ℕ × Option X)). Allows (Holds marks belongs last) slots id (me.0, c) 1 (λ n. (n + 1) % 2 ^ 64) (passed_on marks (step slots 1 1 0 none) (me.0, c))) (sym has) (passes slots id me.0 x waits turn grew)

  pub put_as : (slots id : ℕ) (me now : MeOf) (x : X) → IsServed me → now ≡ (me.0, (0, Some x) ∷ rest me.1) → ExtendsByOwners belongs me.0.last me.0.owners me.0.seen (marks x)
      → Allows (Holds marks belongs last) slots id now 1 (λ n. (n + 1) % 2 ^ 64) (passed_on marks (step slots 1 1 0 none) now)
  put_as slots id me now x turn is grew =
      let is' : now ≡ (me.0, (0, Some x) ∷ []) = is ∙ ap (λ (c : List (ℕ × Option X)). (me.0, (0, Some x) ∷ rest c)) turn.carried in
      subst (λ (m : MeOf). Allows (Holds marks belongs last) slots id m 1 (λ n. (n + 1) % 2 ^ 64) (passed_on marks (step slots 1 1 0 none) m)) (sym is') (passes slots id me.0 x turn.ticket turn.turn grew)

  pub has_slot : (v w : MeOf) → Took marks belongs v w → (old : Option X) × (w.1 ≡ (0, old) ∷ rest w.1)
  has_slot v w took = (Some took.0, subst (λ (m : MeOf). m.1 ≡ (0, Some took.0) ∷ rest m.1) (sym took.1) refl)

  pub saw : (v w : MeOf) → Took marks belongs v w → ExtendsByOthers belongs v.0.last v.0.owners v.0.seen w.0.seen
  saw v w took = subst (λ (m : MeOf). ExtendsByOthers belongs v.0.last v.0.owners v.0.seen m.0.seen) (sym took.1) took.2

  pub grown_along : (v w : MeOf) (c d : List M) → w.0.owners ≡ v.0.owners → w.0.last ≡ v.0.last → w.0.seen ≡ v.0.seen → c ≡ d → ExtendsByOthers belongs w.0.last w.0.owners w.0.seen c → ExtendsByOthers belongs v.0.last v.0.owners v.0.seen d
  grown_along v w c d owners lasts saw' is h =
      subst (λ l. ExtendsByOthers belongs l v.0.owners v.0.seen d) lasts (subst (λ o. ExtendsByOthers belongs w.0.last o v.0.seen d) owners (subst (λ s. ExtendsByOthers belongs w.0.last w.0.owners s d) saw' (subst (λ e. ExtendsByOthers belongs w.0.last w.0.owners w.0.seen e) is h)))
