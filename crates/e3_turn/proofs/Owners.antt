-- The steps on owners keep the rule: choose, split, join, learn; and what the last pass knows at the end.
use Rattle.std.proofs.Common.{◌≡◌, ◌≢◌, ℕ, zero, suc, ◌+◌, ◌<◌, ◌≤◌, List, [], ◌∷◌, ◌++◌, length, set, refl, sym, ap, ◌∙◌, subst, ⊎_elim, arith, eqb, cond, Bool, true, false, true≢false, length-append}
use Rattle.std.specs.Prelude.{slice_index, slice_set, All, Option, Some, ltb, MatchBool}
use Rattle.std.proofs.lemmas.Bool.{eqb-true, ltb-true, ltb-false}
use Rattle.std.proofs.lemmas.List.{append-nil}
use Rattle.std.proofs.lemmas.List.Elements.{All-weaker}
use mathlib.Core.Option.{some, none, some-injective}
use lib.ListN.{get_elem?}
use prog.Atomic.{either}
use Rattle.atomic_table.specs.Table.{State, Me, step, keeps, Allows, Splits, Joins, Final, Seen}
use Rattle.atomic_table.proofs.Lists.{at_set, at_snoc}
use Rattle.e3_turn.specs.declared.view.View.{View}
use Rattle.e3_turn.specs.Chronicles.{count_of, longer, IsForeign, ExtendsByOthers, LongerExtends}
use Rattle.e3_turn.specs.Rule.{total, waiting, turning, has_ticket, newcomer, nobody, choosing, kept_part, dealt_part, joined, PassFits, Home, HoldsAt, Holds}
use Rattle.e3_turn.specs.Steps.{chose, learned, Rests}
use Rattle.e3_turn.proofs.Totals.{total_set, total-append, total_some, count_of-append, count_of-without, length-without, count_of_self, length-down_from}
use Rattle.e3_turn.proofs.Prefixes.{all_front, all_back, two_prefixes}
use Rattle.e3_turn.proofs.Views.{off, no_ticket, turn_of, each_set, stays, apart}

module _ {X M : Type 0} (marks : X → List M) (belongs : M → ℕ → Bool) (last : ℕ) where
  abbrev StateOf : Type 0
  StateOf = State (Option X) (View M)

  abbrev RuleAt : StateOf → ℕ → ℕ → List M → Type 0
  RuleAt s served drawn chronicle = HoldsAt marks belongs last s served drawn chronicle

  -- the state of a pass between two steps of one call
  abbrev MeOf : Type 0
  MeOf = Me (Option X) (View M)

  pub chooses : (slots id : ℕ) (me : Me (Option X) (View M)) (o : ℕ)
      → Allows (Holds marks belongs last) slots id me 0 (λ n. either (eqb n o) o n) (chose (step slots 0 o o none) me)
  chooses slots id me o s kept one at fit =
      let k = kept.3 in
      let q = stays marks belongs last s kept.0 kept.1 kept.2 k id me.0 o at in
      let n : ℕ = slice_index s.words 0 in (
        choosing me.0 o,
        keeps,
        tt,
        (
          kept.0,
          kept.1,
          kept.2,
          record {
            words = ap (λ m. slice_set s.words 0 m) (unchanged n) ∙ ap (λ ws. slice_set ws 0 (slice_index ws 0)) k.words;
            few = q.few;
            counted = q.counted;
            bound = q.bound;
            tickets = q.tickets;
            owners = q.owners;
            fits = q.fits;
            home = q.home;
          },
        ),
        refl,
      )
    where
      unchanged : (n : ℕ) → either (eqb n o) o n ≡ n
      unchanged n = go (eqb n o) refl
        where
          go : (b : Bool) → eqb n o ≡ b → either b o n ≡ n
          go true e = sym (eqb-true n o e)
          go false e = refl

  pub learns : (slots id : ℕ) (me : Me (Option X) (View M)) → 0 < length me.0.owners
      → Allows (Holds marks belongs last) slots id me 0 (λ n. n) (learned belongs (step slots 0 0 0 none) me)
  learns slots id me owned s kept one at fit =
      let k = kept.3 in
      let f = k.fits id me.0 at in
      let q = stays marks belongs last s kept.0 kept.1 kept.2 k id me.0 me.0.chosen at in (
        me.0,
        keeps,
        tt,
        (
          kept.0,
          kept.1,
          kept.2,
          record {
            words = ap (λ ws. slice_set ws 0 (slice_index ws 0)) k.words;
            few = q.few;
            counted = q.counted;
            bound = q.bound;
            tickets = q.tickets;
            owners = q.owners;
            fits = q.fits;
            home = q.home;
          },
        ),
        (refl, λ two. subst (λ l. LongerExtends belongs l me.0.first_owners me.0.first_seen me.0.second_owners me.0.second_seen) (sym (f.lasts owned)) (f.olds two)),
      )

  pub cuts : (id : ℕ) (v : View M) → v.waits ≡ false → v.has_turn ≡ false → 0 < count_of v.chosen v.owners → 1 < length v.owners
      → Splits (Holds marks belongs last) id v (kept_part v) (dealt_part v)
  cuts id v rests idle has more s kept at =
      let served = kept.0 in
      let drawn = kept.1 in
      let chronicle = kept.2 in
      let k = kept.3 in
      let left : View M = kept_part v in
      let right : View M = dealt_part v in
      let f = k.fits id v at in
      let owned : 0 < length v.owners = omega arith in
      let sum = λ (f : View M → ℕ) (e : f left + f right ≡ f v). (let r = total_set f s.views id v left at in let a = total-append f (set s.views id left) (right ∷ []) in let b : total f (right ∷ []) ≡ f right + 0 = refl in let q : total f (set s.views id left ++ right ∷ []) ≡ total f s.views = omega arith in q) in
      let some_left : 0 < length left.owners = (let l = length-without v.chosen v.owners has in omega arith) in
      let grown = f.grown owned in (
        served,
        drawn,
        chronicle,
        record {
          words = k.words;
          few = k.few;
          counted = ap (λ n. served + n) (sum waiting (both_none left right rests rests)) ∙ k.counted;
          bound = sum (λ v. length v.owners) (let l = length-without v.chosen v.owners has in let b : length right.owners ≡ 1 = refl in omega arith) ∙ k.bound;
          tickets = λ t a b. sum (has_ticket t) (no_tickets t left right rests rests ∙ sym (no_ticket v t rests)) ∙ k.tickets t a b;
          owners = λ p h. sum (λ v. count_of p v.owners) (count_of-without p v.chosen v.owners has) ∙ k.owners p h;
          fits = λ j u e. ⊎_elim
              (λ was. each_set (PassFits belongs last served drawn chronicle) s.views id left (λ j u ne e. k.fits j u e) record {
                lasts = λ _. f.lasts owned;
                below = λ o h. f.below o (let t = count_of-without o v.chosen v.owners has in omega arith);
                start = f.start;
                end = f.end;
                owns = λ h. absurd (true≢false (sym h ∙ rests));
                waits = f.waits;
                now = f.now;
                whole = f.whole;
                grown = λ _. (grown.0, grown.1, All-weaker (IsForeign belongs last v.owners) (IsForeign belongs last left.owners) (λ m w. (w.0, λ o b. (let t = count_of-without o v.chosen v.owners has in let z = w.1 o b in omega arith))) grown.0 grown.2);
                olds = f.olds;
              } j u was)
              (λ (same : right ≡ u). subst (PassFits belongs last served drawn chronicle) same record {
                lasts = λ _. f.lasts owned;
                below = λ o h. f.below o (let t = count_of-without o v.chosen v.owners has in omega arith);
                start = λ h. absurd (true≢false (sym h ∙ rests));
                end = λ h. absurd (true≢false (sym h ∙ rests));
                owns = λ h. absurd (true≢false (sym h ∙ rests));
                waits = λ h. absurd (true≢false (sym h ∙ idle));
                now = λ h. absurd (true≢false (sym h ∙ idle));
                whole = λ h. absurd (true≢false (sym h ∙ idle));
                grown = λ _. (grown.0, grown.1, All-weaker (IsForeign belongs last v.owners) (IsForeign belongs last right.owners) (λ m w. (w.0, λ o b. (let t = count_of-without o v.chosen v.owners has in let z = w.1 o b in omega arith))) grown.0 grown.2);
                olds = λ h. absurd (let z = h.0 in omega arith);
              })
              (at_snoc (set s.views id left) right u j e);
          home = subst (Home marks s.homes chronicle) (sym (sum turning (both_idle left right v idle idle idle))) k.home;
        },
      )
    where
      both_none : (u w : View M) → u.waits ≡ false → w.waits ≡ false → waiting u + waiting w ≡ waiting u
      both_none u w a b = let x : waiting w ≡ 0 = ap (λ c. cond c 1 0) b in omega arith

      no_tickets : (t : ℕ) (u w : View M) → u.waits ≡ false → w.waits ≡ false → has_ticket t u + has_ticket t w ≡ 0
      no_tickets t u w a b = let x = no_ticket u t a in let y = no_ticket w t b in omega arith

      both_idle : (u w x : View M) → u.has_turn ≡ false → w.has_turn ≡ false → x.has_turn ≡ false → turning u + turning w ≡ turning x
      both_idle u w x a b c = let p : turning u ≡ 0 = ap (λ c. cond c 1 0) a in let q : turning w ≡ 0 = ap (λ c. cond c 1 0) b in let r : turning x ≡ 0 = ap (λ c. cond c 1 0) c in omega arith

  -- two passes have seen beginnings of one chronicle
  agrees : (vo wo : List ℕ) (vs ws chronicle : List M) → ExtendsByOthers belongs last vo vs chronicle → ExtendsByOthers belongs last wo ws chronicle → LongerExtends belongs last vo vs wo ws
  agrees vo wo vs ws chronicle g h = go (ltb (length vs) (length ws)) refl
    where
      go : (b : Bool) → ltb (length vs) (length ws) ≡ b → MatchBool b (ExtendsByOthers belongs last vo vs ws) (ExtendsByOthers belongs last wo ws vs)
      go true e =
          let lt = ltb-true (length vs) (length ws) e in
          let r = two_prefixes vs ws g.0 h.0 (sym g.1 ∙ h.1) (omega arith) in
          (r.0, r.1, all_front (IsForeign belongs last vo) r.0 h.0 (subst (All (IsForeign belongs last vo)) r.2 g.2))
      go false e =
          let r = two_prefixes ws vs h.0 g.0 (sym h.1 ∙ g.1) (ltb-false (length vs) (length ws) e) in
          (r.0, r.1, all_front (IsForeign belongs last wo) r.0 g.0 (subst (All (IsForeign belongs last wo)) r.2 h.2))

  grown_both : (vo wo : List ℕ) (vs ws chronicle : List M) → ExtendsByOthers belongs last vo vs chronicle → ExtendsByOthers belongs last wo ws chronicle → ExtendsByOthers belongs last (vo ++ wo) (longer vs ws) chronicle
  grown_both vo wo vs ws chronicle g h = go (ltb (length vs) (length ws)) refl
    where
      two : (m : M) → IsForeign belongs last vo m → IsForeign belongs last wo m → IsForeign belongs last (vo ++ wo) m
      two m a b = (a.0, λ o is. (let x = a.1 o is in let y = b.1 o is in let t = count_of-append o vo wo in omega arith))

      go : (b : Bool) → ltb (length vs) (length ws) ≡ b → ExtendsByOthers belongs last (vo ++ wo) (cond b ws vs) chronicle
      go true e =
          let lt = ltb-true (length vs) (length ws) e in
          let r = two_prefixes vs ws g.0 h.0 (sym g.1 ∙ h.1) (omega arith) in
          let theirs = all_back (IsForeign belongs last vo) r.0 h.0 (subst (All (IsForeign belongs last vo)) r.2 g.2) in
          (h.0, h.1, λ i d lt. two _ (theirs i d lt) (h.2 i d lt))
      go false e =
          let r = two_prefixes ws vs h.0 g.0 (sym h.1 ∙ g.1) (ltb-false (length vs) (length ws) e) in
          let theirs = all_back (IsForeign belongs last wo) r.0 g.0 (subst (All (IsForeign belongs last wo)) r.2 h.2) in
          (g.0, g.1, λ i d lt. two _ (g.2 i d lt) (theirs i d lt))

  pub joins : (id : ℕ) (v : View M) (other : ℕ) (w : View M) → v.waits ≡ false → v.has_turn ≡ false → w.waits ≡ false → w.has_turn ≡ false → 0 < length v.owners → 0 < length w.owners
      → Joins (Holds marks belongs last) id v other w (joined v w) nobody
  joins id v other w rests_v idle_v rests_w idle_w owned_v owned_w s kept at ne there =
      let served = kept.0 in
      let drawn = kept.1 in
      let chronicle = kept.2 in
      let k = kept.3 in
      let both : View M = joined v w in
      let at_w = ⊎_elim (λ (t : (other ≡ id) × (both ≡ w)). absurd (ne t.0)) (λ (t : (other ≢ id) × (get_elem? s.views other ≡ some w)). t.1) (at_set s.views id other both w there) in
      let f = k.fits id v at in
      let g = k.fits other w at_w in
      let sum = λ (f : View M → ℕ) (e : f both + f nobody ≡ f v + f w). (let r = total_set f s.views id v both at in let q = total_set f (set s.views id both) other w nobody there in let z : total f (set (set s.views id both) other nobody) ≡ total f s.views = omega arith in z) in
      let grown_v = f.grown owned_v in
      let grown_w = g.grown owned_w in (
        served,
        drawn,
        chronicle,
        record {
          words = k.words;
          few = k.few;
          counted = ap (λ n. served + n) (sum waiting (none v w rests_v rests_w)) ∙ k.counted;
          bound = sum (λ v. length v.owners) (let l = length-append v.owners w.owners in omega arith) ∙ k.bound;
          tickets = λ t a b. sum (has_ticket t) (no_tickets t v w rests_v rests_w) ∙ k.tickets t a b;
          owners = λ p h. sum (λ v. count_of p v.owners) (let l = count_of-append p v.owners w.owners in omega arith) ∙ k.owners p h;
          fits = each_set (PassFits belongs last served drawn chronicle) (set s.views id both) other nobody
              (λ j u _ e. each_set (PassFits belongs last served drawn chronicle) s.views id both (λ j u ne e. k.fits j u e) record {
                lasts = λ _. f.lasts owned_v;
                below = λ o h. either_below o (f.below o) (g.below o) h;
                start = f.start;
                end = f.end;
                owns = λ h. absurd (true≢false (sym h ∙ rests_v));
                waits = f.waits;
                now = f.now;
                whole = λ h. absurd (true≢false (sym h ∙ idle_v));
                grown = λ _. grown_both v.owners w.owners v.seen w.seen chronicle grown_v grown_w;
                olds = λ _. agrees v.owners w.owners v.seen w.seen chronicle grown_v grown_w;
              } j u e)
              record {
                lasts = λ h. absurd (omega arith);
                below = λ o h. absurd (omega arith);
                start = λ h. absurd (off h);
                end = λ h. absurd (off h);
                owns = λ h. absurd (off h);
                waits = λ h. absurd (off h);
                now = λ h. absurd (off h);
                whole = λ h. absurd (off h);
                grown = λ h. absurd (omega arith);
                olds = λ h. absurd (let z = h.0 in omega arith);
              };
          home = subst (Home marks s.homes chronicle) (sym (sum turning (idle v w idle_v idle_w))) k.home;
        },
      )
    where
      none : (u x : View M) → u.waits ≡ false → x.waits ≡ false → waiting u + 0 ≡ waiting u + waiting x
      none u x a b = let z : waiting x ≡ 0 = ap (λ c. cond c 1 0) b in omega arith

      no_tickets : (t : ℕ) (u x : View M) → u.waits ≡ false → x.waits ≡ false → has_ticket t u + 0 ≡ has_ticket t u + has_ticket t x
      no_tickets t u x a b = let z = no_ticket x t b in omega arith

      idle : (u x : View M) → u.has_turn ≡ false → x.has_turn ≡ false → turning u + 0 ≡ turning u + turning x
      idle u x a b = let z : turning x ≡ 0 = ap (λ c. cond c 1 0) b in omega arith

      either_below : (o : ℕ) → (0 < count_of o v.owners → o ≤ last) → (0 < count_of o w.owners → o ≤ last) → 0 < count_of o (v.owners ++ w.owners) → o ≤ last
      either_below o a b h = go (count_of o v.owners) refl
        where
          go : (n : ℕ) → count_of o v.owners ≡ n → o ≤ last
          go zero e = b (let t = count_of-append o v.owners w.owners in omega arith)
          go (suc n) e = a (omega arith)

  -- the last pass has seen all
  pub record Closes (v : View M) (xs : List (Option X)) : Type 0 where
    pub x : X
    pub is : get_elem? xs 0 ≡ some (Some x)
    pub seen : marks x ≡ v.seen

  pub closes : (id : ℕ) (v : View M) (ws : List ℕ) (xs : List (Option X)) → v.waits ≡ false → v.has_turn ≡ false → 0 < length v.owners → ((o : ℕ) → o ≤ v.last → 0 < count_of o v.owners)
      → Final (Seen (Holds marks belongs last) id v) ws xs → Closes v xs
  closes id v ws xs rests idle owned all final = ⊎_elim
      (λ (h : (x : X) × (s.homes ≡ some (Some x) ∷ []) × (marks x ≡ chronicle) × (total turning s.views ≡ 0)).
      record { x = h.0; is = final.4 0 (Some h.0) (ap (λ hs. get_elem? hs 0) h.1); seen = h.2 ∙ grown.1 ∙ ap (λ m. v.seen ++ m) (nothing grown.0 grown.2) ∙ append-nil v.seen })
      (λ (h : (s.homes ≡ none ∷ []) × (total turning s.views ≡ 1)). absurd (
      let t = total_some turning s.views (omega (arith, h.1)) in
      let turn = turn_of t.what t.positive in
      let g = k.fits t.at t.what t.there in
      let p = first_of t.what.owners (g.owns (g.waits turn)) in
      let ne : t.at ≢ id = λ e. true≢false (sym turn ∙ ap (λ (z : View M). z.has_turn) (some-injective _ _ (sym t.there ∙ ap (get_elem? s.views) e ∙ at)) ∙ idle) in
      apart marks belongs last s kept.0 kept.1 chronicle k t.at id t.what v ne t.there at p.0 p.1 (all' p.0 (g.below p.0 p.1))))
      k.home
    where
      s : StateOf
      s = final.0

      kept : Holds marks belongs last final.0
      kept = final.1.0

      at : get_elem? final.0.views id ≡ some v
      at = final.1.1

      chronicle : List M
      chronicle = final.1.0.2

      k : RuleAt final.0 final.1.0.0 final.1.0.1 final.1.0.2
      k = final.1.0.3

      all' : (o : ℕ) → o ≤ last → 0 < count_of o v.owners
      all' o h = all o (subst (λ l. o ≤ l) (sym ((final.1.0.3.fits id v final.1.1).lasts owned)) h)

      grown : ExtendsByOthers belongs last v.owners v.seen final.1.0.2
      grown = (final.1.0.3.fits id v final.1.1).grown owned

      nothing : (more : List M) → All (IsForeign belongs last v.owners) more → more ≡ []
      nothing [] h = refl
      nothing (m ∷ ms) h = absurd (let z = h 0 m (omega arith) in let a = z.1 z.0.0 z.0.2 in let b = all z.0.0 (subst (λ l. z.0.0 ≤ l) (sym ((final.1.0.3.fits id v final.1.1).lasts owned)) z.0.1) in omega arith)

      first_of : (l : List ℕ) → 0 < length l → (o : ℕ) × (0 < count_of o l)
      first_of [] h = absurd (omega arith)
      first_of (o ∷ os) h = (o, let t = count_of_self o in omega arith)

  pub cuts_as : (id : ℕ) (me now : MeOf) (o : ℕ) → Rests me → now ≡ (choosing me.0 o, me.1) → 0 < count_of o me.0.owners → 1 < length me.0.owners
      → Splits (Holds marks belongs last) id now.0 (kept_part now.0) (dealt_part now.0)
  cuts_as id me now o rests is has more =
      subst (λ (m : MeOf). Splits (Holds marks belongs last) id m.0 (kept_part m.0) (dealt_part m.0)) (sym is) (cuts id (choosing me.0 o) rests.ticket rests.turn has more)

  pub rests_cut : (me now left right : MeOf) (o : ℕ) → Rests me → now ≡ (choosing me.0 o, me.1) → 0 < count_of o me.0.owners → 1 < length me.0.owners
      → left ≡ (kept_part now.0, now.1) → right ≡ (dealt_part now.0, []) → Rests left × Rests right
  rests_cut me now left right o rests is has more l r =
      let l' : left ≡ (kept_part (choosing me.0 o), me.1) = l ∙ ap (λ (m : MeOf). (kept_part m.0, m.1)) is in
      let r' : right ≡ (dealt_part (choosing me.0 o), []) = r ∙ ap (λ (m : MeOf). (dealt_part m.0, [])) is in (
        subst (λ (m : MeOf). Rests m) (sym l') record { carried = rests.carried; ticket = rests.ticket; turn = rests.turn; owned = let z = length-without o me.0.owners has in omega arith },
        subst (λ (m : MeOf). Rests m) (sym r') record { carried = refl; ticket = rests.ticket; turn = rests.turn; owned = omega arith },
      )

  pub rests_new : (seen : List M) (me : MeOf) → me ≡ (newcomer last seen, []) → Rests me
  rests_new seen me e = subst (λ (m : MeOf). Rests m) (sym e) record { carried = refl; ticket = refl; turn = refl; owned = let l = length-down_from last in omega arith }

  pub owned_joined : (v w : View M) (me : MeOf) (c : List (ℕ × Option X)) → me ≡ (joined v w, c) → 0 < length v.owners → 0 < length me.0.owners
  owned_joined v w me c is h = subst (λ (m : MeOf). 0 < length m.0.owners) (sym is) (let l = length-append v.owners w.owners in omega arith)

  pub agree_joined : (v w : View M) (me : MeOf) (c : List (ℕ × Option X)) → me ≡ (joined v w, c) → 0 < length v.owners → 0 < length w.owners
      → ((0 < length me.0.first_owners) × (0 < length me.0.second_owners) → LongerExtends belongs me.0.last me.0.first_owners me.0.first_seen me.0.second_owners me.0.second_seen)
      → LongerExtends belongs v.last v.owners v.seen w.owners w.seen
  agree_joined v w me c is a b h =
      subst (λ (m : MeOf). (0 < length m.0.first_owners) × (0 < length m.0.second_owners) → LongerExtends belongs m.0.last m.0.first_owners m.0.first_seen m.0.second_owners m.0.second_seen) is h (a, b)
