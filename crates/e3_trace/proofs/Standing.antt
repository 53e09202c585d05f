-- The places of packets: where they are found, behind one packet more, and behind one entry more.
use Rattle.std.proofs.Common.{◌≡◌, ◌<◌, ◌≤◌, ◌+◌, ℕ, zero, suc, Bool, true, false, List, [], ◌∷◌, ◌++◌, length, get_or, take, take_all, Option, Some, None, refl, ap, sym, subst, ◌∙◌, append-nil, append_assoc}
use Rattle.std.specs.Prelude.{option_and_then, slice_get}
use Rattle.std.specs.declared.cmp.Ordering.{Ordering}
use Rattle.std.specs.declared.cmp.Ordering.TheVariants.{Less, Equal, Greater}
use Rattle.std.specs.Ordering.{nat_cmp}
use Rattle.std.specs.Map.{lookup}
use Rattle.std.specs.BTreeMap.{is_at, insert_entry}
use Rattle.std.proofs.lemmas.List.{take_more}
use Rattle.std.proofs.lemmas.List.Sums.{fold-append}
use Rattle.std.proofs.lemmas.Option.{slice_get_read}
use Rattle.std.proofs.lemmas.List.Concat.{flat_map-append}
use Rattle.e3_types.specs.declared.entries.Entry.{Entry}
use Rattle.e3_types.specs.declared.messages.Packet.{Packet}
use Rattle.e3_world.specs.Packets.{outs_of, sent}
use Rattle.e3_trace.specs.declared.past.Place.{Place}
use Rattle.e3_trace.specs.Past.{by_number, sent_at, standing, ArePlaces}

-- one packet more
pub by_number_more : (packets : List Packet) (p : Packet) → by_number (packets ++ p ∷ []) ≡ insert_entry nat_cmp (by_number packets) p.number p
by_number_more packets p = fold-append (λ (m : List (ℕ × Packet)) (q : Packet). insert_entry nat_cmp m q.number q) [] packets (p ∷ [])

-- what is sent behind one entry more
pub sent_more : (history : List Entry) (e : Entry) → sent (history ++ e ∷ []) ≡ sent history ++ outs_of e.act
sent_more history e =
    flat_map-append (λ (x : Entry). outs_of x.act) history (e ∷ []) ∙ ap (λ outs. sent history ++ outs) (append-nil (outs_of e.act))

-- what stands somewhere stands there behind more
get_more : {X : Type 0} (xs ys : List X) (k : ℕ) (x : X) → slice_get xs k ≡ Some x → slice_get (xs ++ ys) k ≡ Some x
get_more [] ys k x is = absurd cc
get_more (y ∷ xs) ys zero x is = is
get_more (y ∷ xs) ys (suc k) x is = get_more xs ys k x is

get_last : {X : Type 0} (xs : List X) (x : X) → slice_get (xs ++ x ∷ []) (length xs) ≡ Some x
get_last [] x = refl
get_last (y ∷ xs) x = get_last xs x

stands_by : {X : Type 0} (o q : Option X) (look : X → Option Packet) (p : Packet) →
    ((x : X) → o ≡ Some x → q ≡ Some x) → option_and_then look o ≡ Some p → option_and_then look q ≡ Some p
stands_by None q look p more is = absurd cc
stands_by (Some x) q look p more is = rw (more x refl) is

standing_more : (history : List Entry) (e : Entry) (place : Place) (p : Packet) → standing history place ≡ Some p → standing (history ++ e ∷ []) place ≡ Some p
standing_more history e place p is =
    stands_by (slice_get history place.entry) (slice_get (history ++ e ∷ []) place.entry) (λ x. slice_get (outs_of x.act) place.packet) p
    (λ x. get_more history (e ∷ []) place.entry x) is

pub standing_last : (history : List Entry) (e : Entry) (i : ℕ) (p : Packet) → slice_get (outs_of e.act) i ≡ Some p →
    standing (history ++ e ∷ []) (record { entry = length history; packet = i }) ≡ Some p
standing_last history e i p is = rw (get_last history e) is

-- behind one entry more they are the places of the same packets
pub places_more : (history : List Entry) (e : Entry) (es : List (ℕ × Place)) (ss : List (ℕ × Packet)) → ArePlaces history es ss → ArePlaces (history ++ e ∷ []) es ss
places_more history e [] [] are = tt
places_more history e [] (s ∷ ss) are = absurd are
places_more history e (x ∷ es) [] are = absurd are
places_more history e (x ∷ es) (s ∷ ss) are = (are.0, standing_more history e x.1 s.1 are.1, places_more history e es ss are.2)

-- one packet more, with its place
pub places_put : (history : List Entry) (number : ℕ) (place : Place) (p : Packet) → standing history place ≡ Some p → (es : List (ℕ × Place)) (ss : List (ℕ × Packet)) →
    ArePlaces history es ss → ArePlaces history (insert_entry nat_cmp es number place) (insert_entry nat_cmp ss number p)
places_put history number place p stands [] [] are = (refl, stands, tt)
places_put history number place p stands [] (s ∷ ss) are = absurd are
places_put history number place p stands (x ∷ es) [] are = absurd are
places_put history number place p stands (x ∷ es) (s ∷ ss) are = by (nat_cmp number x.0) refl (places_put history number place p stands es ss are.2)
  where
    same : nat_cmp number s.0 ≡ nat_cmp number x.0
    same = ap (nat_cmp number) (sym are.0)

    by : (o : Ordering) → nat_cmp number x.0 ≡ o → ArePlaces history (insert_entry nat_cmp es number place) (insert_entry nat_cmp ss number p) →
        ArePlaces history (insert_entry nat_cmp (x ∷ es) number place) (insert_entry nat_cmp (s ∷ ss) number p)
    by Less is more = rw (is, same ∙ is) (refl, stands, are)
    by Equal is more = rw (is, same ∙ is) (are.0, stands, are.2)
    by Greater is more = rw (is, same ∙ is) (are.0, are.1, more)

-- what is found by its place is what is found by its number
pub found_at : (history : List Entry) (test : ℕ → Bool) (es : List (ℕ × Place)) (ss : List (ℕ × Packet)) → ArePlaces history es ss →
    option_and_then (standing history) (lookup test es) ≡ lookup test ss
found_at history test [] [] are = refl
found_at history test [] (s ∷ ss) are = absurd are
found_at history test (x ∷ es) [] are = absurd are
found_at history test (x ∷ es) (s ∷ ss) are = by (test x.0) refl (found_at history test es ss are.2)
  where
    by : (b : Bool) → test x.0 ≡ b → option_and_then (standing history) (lookup test es) ≡ lookup test ss →
        option_and_then (standing history) (lookup test (x ∷ es)) ≡ lookup test (s ∷ ss)
    by true is more = rw (is, sym (ap test are.0) ∙ is) are.1
    by false is more = rw (is, sym (ap test are.0) ∙ is) more

-- the packets of one entry more, one by one
module _ (history : List Entry) (e : Entry) where
  pub places_begun : (es : List (ℕ × Place)) → ArePlaces history es (by_number (sent history)) → ArePlaces (history ++ e ∷ []) es (by_number (sent history ++ []))
  places_begun es are = rw (append-nil (sent history)) (places_more history e es (by_number (sent history)) are)

  place_at : (es : List (ℕ × Place)) (i : ℕ) (p : Packet) → i < length (outs_of e.act) → p ≡ get_or (outs_of e.act) i p →
      ArePlaces (history ++ e ∷ []) es (by_number (sent history ++ take i (outs_of e.act))) →
      ArePlaces (history ++ e ∷ []) (insert_entry nat_cmp es p.number (record { entry = length history; packet = i }))
      (by_number (sent history ++ take (i + 1) (outs_of e.act)))
  place_at es i p less is are =
      let outs : List Packet = outs_of e.act in
      let place : Place = record { entry = length history; packet = i } in
      let stands : standing (history ++ e ∷ []) place ≡ Some p = standing_last history e i p (slice_get_read outs (length outs) i p refl less is) in
      let more : by_number (sent history ++ take (i + 1) outs) ≡ insert_entry nat_cmp (by_number (sent history ++ take i outs)) p.number p =
      ap by_number (
      ap (λ ps. sent history ++ ps) (take_more outs i p less ∙ ap (λ q. take i outs ++ q ∷ []) (sym is))
      ∙ sym (append_assoc (sent history) (take i outs) (p ∷ []))
      ) ∙ by_number_more (sent history ++ take i outs) p in
      rw more (places_put (history ++ e ∷ []) p.number place p stands es (by_number (sent history ++ take i outs)) are)

  pub place_next : (es : List (ℕ × Place)) (i at number : ℕ) (p : Packet) (outs : List Packet) → number ≡ p.number → outs ≡ outs_of e.act → at ≡ length history →
      i < length outs → p ≡ get_or outs i p →
      ArePlaces (history ++ e ∷ []) es (by_number (sent history ++ take i (outs_of e.act))) →
      ArePlaces (history ++ e ∷ []) (insert_entry nat_cmp es number (record { entry = at; packet = i }))
      (by_number (sent history ++ take (i + 1) (outs_of e.act)))
  place_next es i at number p outs named same here less is are =
      let Less : List Packet → Type 0 = λ ps. i < length ps in
      let Is : List Packet → Type 0 = λ ps. p ≡ get_or ps i p in
      rw (named, here) (place_at es i p (subst Less same less) (subst Is same is) are)

  pub places_done : (es : List (ℕ × Place)) (n : ℕ) → length (outs_of e.act) ≤ n → ArePlaces (history ++ e ∷ []) es (by_number (sent history ++ take n (outs_of e.act))) →
      ArePlaces (history ++ e ∷ []) es (by_number (sent (history ++ e ∷ [])))
  places_done es n all are =
      let Are : List Packet → Type 0 = λ ps. ArePlaces (history ++ e ∷ []) es (by_number ps) in
      subst Are (ap (λ ps. sent history ++ ps) (take_all n (outs_of e.act) all) ∙ sym (sent_more history e)) are

-- what is found by its place is the packet of its number
pub found_sent : (history : List Entry) (es : List (ℕ × Place)) (number : ℕ) (o : Option Place) → ArePlaces history es (by_number (sent history)) →
    o ≡ lookup (is_at (nat_cmp number)) es → option_and_then (standing history) o ≡ sent_at history number
found_sent history es number o are is = ap (option_and_then (standing history)) is ∙ found_at history (is_at (nat_cmp number)) es (by_number (sent history)) are
