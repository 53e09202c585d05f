-- What an append, a clear and a turn make of a log that holds records.
use Rattle.std.proofs.Common.{◌≡◌, ◌≢◌, ◌⊎◌, ◌+◌, ◌<◌, ◌≤◌, ◌^◌, ◌++◌, ◌∷◌, [], inl, inr, ℕ, Bool, true, false, max, List, length, refl, sym, subst, ap, ◌∙◌, append-nil, length-append, arith}
use Rattle.std.proofs.lemmas.Bool.{le-ltb, lt-ltb}
use Rattle.e3_codec.specs.Fields.{AllCanBeReadBack}
use Rattle.e3_disk.specs.Meaning.{Meaning}
use Rattle.e3_world.specs.Brief.{brief}
use Rattle.e3_world.specs.Orderly.{IsOrderly}
use Rattle.e3_log.specs.Reading.{HoldsAs, ReadsAs as BytesReadAs}
use Rattle.e3_log.specs.Stands.{EachReadsAs, LogState, Stands}
use Rattle.e3_log.specs.declared.fault.AppendFault.{AppendFault}
use Rattle.e3_log.specs.declared.fault.AppendFault.TheVariants as append_fault
use Rattle.e3_node.specs.site_log.Bodies.{Hold, IsLogged, ReadsAs, ReadsLeft, bodies_in, counted, joined, with_kept}
use Rattle.e3_node.specs.site_log.Ends.{IsShortOf, why_of}
use Rattle.e3_node.specs.declared.site_log.writing.Short.{Short}
use Rattle.e3_node.proofs.site_log.Frames.{bodies_push, joined_push, one_body, with_body}
use Rattle.e3_node.proofs.site_log.Holding.{hold_brief, hold_on, hold_same}
use Rattle.e3_types.specs.Spelling.{spelling}
use Rattle.e3_types.specs.declared.entries.Why.{Why}
use Rattle.e3_types.specs.declared.entries.Why.TheVariants.{Fault, Full}
use Rattle.e3_types.specs.declared.records.Record.{Record}

-- a call that did not fail found no failure
pub none_kept : (b : Bool) → (b ≡ true → ⊥) → b ≡ false
none_kept true never = absurd (never refl)
none_kept false never = refl

-- what is read as the log alone is told by a number that is not passed
pub left_quiet : (site capacity most m : ℕ) (l more : List Record) (why : Why) (c : List ℕ) → (it : ReadsAs site capacity most l c) →
    (length (joined it.lists) < 2 ^ 64 → length (joined it.lists) ≤ m) → ReadsLeft site capacity most l more m why c
left_quiet site capacity most m l more why c it le = record {
  kept = false;
  reads = it;
  told = λ few. sym (le-ltb m (length (joined it.lists)) (le few));
  doubt = λ yes. absurd (let both : false ≡ true = yes in cc);
}

-- and what is read as the log with more by one that is
left_more : (site capacity most m : ℕ) (l more : List Record) (c : List ℕ) → (it : ReadsAs site capacity most (l ++ more) c) →
    (length (joined it.lists) < 2 ^ 64 → m < length (joined it.lists)) → ReadsLeft site capacity most l more m Fault c
left_more site capacity most m l more c it lt = record {
  kept = true;
  reads = it;
  told = λ few. sym (lt-ltb m (length (joined it.lists)) (lt few));
  doubt = λ yes. refl;
}

some_more : (records : List Record) → records ≢ [] → 0 < length records
some_more [] some = absurd (some refl)
some_more (r ∷ rs) some = omega arith

-- what reads as a log reads as each log with its brief
pub reads_same : (site capacity most : ℕ) (l m : List Record) (c : List ℕ) → brief l ≡ brief m → ReadsAs site capacity most l c → ReadsAs site capacity most m c
reads_same site capacity most l m c same it =
    record { lists = it.lists; hold = hold_same site l m it.lists it.hold same; generation = it.generation; few = it.few; reads = it.reads }

-- a bound may be greater
pub reads_later : (site capacity most later : ℕ) (l : List Record) (c : List ℕ) → most ≤ later → ReadsAs site capacity most l c → ReadsAs site capacity later l c
reads_later site capacity most later l c le it =
    record { lists = it.lists; hold = it.hold; generation = it.generation; few = (let few : it.generation ≤ most = it.few in omega (arith, le, few)); reads = it.reads }

pub left_later : (site capacity most later m : ℕ) (l more : List Record) (why : Why) (c : List ℕ) → most ≤ later → ReadsLeft site capacity most l more m why c →
    ReadsLeft site capacity later l more m why c
unfolding reads_later
left_later site capacity most later m l more why c le it = record {
  kept = it.kept;
  reads = reads_later site capacity most later (with_kept it.kept l more) c le it.reads;
  told = it.told;
  doubt = it.doubt;
}

module _ {D : Type 0} (meaning : Meaning D) (site most : ℕ) (l : List Record) where
  pub logged_later : (later n : ℕ) (log : LogState D) → most ≤ later → IsLogged meaning site most l n log → IsLogged meaning site later l n log
  logged_later later n log le was = record {
    lists = was.lists;
    hold = was.hold;
    stands = was.stands;
    few = (let few : log.generation ≤ most = was.few in omega (arith, le, few));
    logged_is = was.logged_is;
  }

  -- each image of a log that holds records reads as them
  pub image_reads : (n : ℕ) (log : LogState D) → (was : IsLogged meaning site most l n log) → (c : List ℕ) → meaning.image log.disk c
      → ReadsAs site (meaning.meters log.disk).capacity most l c
  image_reads n log was c at = record {
    lists = was.lists;
    hold = was.hold;
    generation = log.generation;
    few = was.few;
    reads = record {
      region = log.region;
      raw = was.stands.raw;
      spare = was.stands.spare;
      holds = subst (λ (b : List ℕ). HoldsAs (meaning.meters log.disk).capacity log.region log.generation was.stands.raw was.stands.spare b) (sym (was.stands.only c at)) was.stands.holds;
      bodies_are = was.stands.bodies_are;
    };
  }

  -- with one frame more
  pub added : (n m : ℕ) (old new : LogState D) (records : List Record) (body : List ℕ) → body ≡ spelling records → records ≢ [] →
      (was : IsLogged meaning site most l n old) → IsOrderly site (l ++ records) → AllCanBeReadBack site records →
      ((bodies : List (List ℕ)) → Stands meaning bodies old → Stands meaning (bodies ++ body ∷ []) new) →
      new.generation ≡ old.generation → m ≡ counted (n + length records) → IsLogged meaning site most (l ++ records) m new
  added n m old new records body is some was orderly back wrote same count =
      let bodies : bodies_in was.lists ++ body ∷ [] ≡ bodies_in (was.lists ++ records ∷ []) =
      with_body (bodies_in was.lists) records body is some ∙ sym (bodies_push was.lists records) in
      let all : length (joined (was.lists ++ records ∷ [])) ≡ length (joined was.lists) + length records =
      ap length (joined_push was.lists records) ∙ length-append (joined was.lists) records in
      record {
        lists = was.lists ++ records ∷ [];
        hold = hold_on site l records was.lists was.hold orderly back;
        stands = subst (λ (bs : List (List ℕ)). Stands meaning bs new) bodies (wrote (bodies_in was.lists) was.stands);
        few = (let few : old.generation ≤ most = was.few in omega (arith, few, same));
        logged_is = (let before : n ≡ counted (length (joined was.lists)) = was.logged_is in omega (arith, all, count, before));
      }

  -- the disk failed meanwhile: the frame is there, or not
  pub left_failed : (n : ℕ) (old new : LogState D) (records : List Record) (body : List ℕ) → body ≡ spelling records → records ≢ [] →
      (was : IsLogged meaning site most l n old) → IsOrderly site (l ++ records) → AllCanBeReadBack site records →
      EachReadsAs (meaning.meters old.disk).capacity old.generation (bodies_in was.lists) old.generation (bodies_in was.lists ++ body ∷ []) (meaning.image new.disk) →
      (meaning.meters new.disk).capacity ≡ (meaning.meters old.disk).capacity → (c : List ℕ) → meaning.image new.disk c →
      ReadsLeft site (meaning.meters new.disk).capacity most l records n Fault c
  left_failed n old new records body is some was orderly back each same c at =
      subst (λ (k : ℕ). ReadsLeft site k most l records n Fault c) (sym same) (by (each c at))
    where
      before : n ≡ counted (length (joined was.lists))
      before = was.logged_is

      all : length (joined (was.lists ++ records ∷ [])) ≡ length (joined was.lists) + length records
      all = ap length (joined_push was.lists records) ∙ length-append (joined was.lists) records

      more : 0 < length records
      more = some_more records some

      by : BytesReadAs (meaning.meters old.disk).capacity old.generation (bodies_in was.lists) c
          ⊎ BytesReadAs (meaning.meters old.disk).capacity old.generation (bodies_in was.lists ++ body ∷ []) c →
          ReadsLeft site (meaning.meters old.disk).capacity most l records n Fault c
      by (inl reads) = left_quiet site (meaning.meters old.disk).capacity most n l records Fault c
          (record { lists = was.lists; hold = was.hold; generation = old.generation; few = was.few; reads = reads })
          (λ few. omega (arith, few, before))
      by (inr reads) = left_more site (meaning.meters old.disk).capacity most n l records c
          (record {
            lists = was.lists ++ records ∷ [];
            hold = hold_on site l records was.lists was.hold orderly back;
            generation = old.generation;
            few = was.few;
            reads = subst (λ (bs : List (List ℕ)). BytesReadAs (meaning.meters old.disk).capacity old.generation bs c)
                (with_body (bodies_in was.lists) records body is some ∙ sym (bodies_push was.lists records)) reads;
          })
          (λ few. omega (arith, few, before, all, more))

  -- nothing was written
  pub left_same : (n : ℕ) (old new : LogState D) (more : List Record) (why : Why) → IsLogged meaning site most l n old → new ≡ old →
      (c : List ℕ) → meaning.image new.disk c → ReadsLeft site (meaning.meters new.disk).capacity most l more n why c
  unfolding image_reads
  left_same n old new more why was same c at =
      let before : n ≡ counted (length (joined was.lists)) = was.logged_is in
      subst (λ (x : LogState D). meaning.image x.disk c → ReadsLeft site (meaning.meters x.disk).capacity most l more n why c) (sym same)
      (λ here. left_quiet site (meaning.meters old.disk).capacity most n l more why c (image_reads n old was c here) (λ few. omega (arith, few, before))) at

  -- an append that failed did either
  pub left_add : (n : ℕ) (old new : LogState D) (records : List Record) (body : List ℕ) (fault : AppendFault) → body ≡ spelling records → records ≢ [] →
      (was : IsLogged meaning site most l n old) → IsOrderly site (l ++ records) → AllCanBeReadBack site records →
      EachReadsAs (meaning.meters old.disk).capacity old.generation (bodies_in was.lists) old.generation (bodies_in was.lists ++ body ∷ []) (meaning.image new.disk) →
      ((need room : ℕ) → fault ≡ append_fault.Full need room → new ≡ old) → (meaning.meters new.disk).capacity ≡ (meaning.meters old.disk).capacity →
      (c : List ℕ) → meaning.image new.disk c → ReadsLeft site (meaning.meters new.disk).capacity most l records n (why_of fault) c
  left_add n old new records body append_fault.Failed is some was orderly back each full same c at =
      left_failed n old new records body is some was orderly back each same c at
  left_add n old new records body (append_fault.Full need room) is some was orderly back each full same c at =
      left_same n old new records (Full need room) was (full need room refl) c at

  -- the other region was closed
  pub cleared : (n : ℕ) (old new : LogState D) → (was : IsLogged meaning site most l n old) → Stands meaning (bodies_in was.lists) new →
      new.generation ≡ old.generation → IsLogged meaning site most l n new
  cleared n old new was stands same = record {
    lists = was.lists;
    hold = was.hold;
    stands = stands;
    few = (let few : old.generation ≤ most = was.few in omega (arith, few, same));
    logged_is = was.logged_is;
  }

  pub left_cleared : (n : ℕ) (old new : LogState D) (more : List Record) (why : Why) → (was : IsLogged meaning site most l n old) →
      ((c : List ℕ) → meaning.image new.disk c → BytesReadAs (meaning.meters old.disk).capacity old.generation (bodies_in was.lists) c) →
      (meaning.meters new.disk).capacity ≡ (meaning.meters old.disk).capacity → (c : List ℕ) → meaning.image new.disk c →
      ReadsLeft site (meaning.meters new.disk).capacity most l more n why c
  left_cleared n old new more why was each same c at =
      let before : n ≡ counted (length (joined was.lists)) = was.logged_is in
      subst (λ (k : ℕ). ReadsLeft site k most l more n why c) (sym same)
      (left_quiet site (meaning.meters old.disk).capacity most n l more why c
      (record { lists = was.lists; hold = was.hold; generation = old.generation; few = was.few; reads = each c at })
      (λ few. omega (arith, few, before)))

  -- the brief alone holds the log
  brief_holds : (n : ℕ) (old : LogState D) (short : Short) → IsLogged meaning site most l n old → IsShortOf site l short → Hold site l (brief l ∷ [])
  brief_holds n old short was is =
      let r = joined was.lists in
      let same : brief r ≡ brief l = was.hold.same in
      let back : AllCanBeReadBack site (brief r) = subst (λ (rs : List Record). AllCanBeReadBack site rs) (sym same) is.back in
      subst (λ (rs : List Record). Hold site l (rs ∷ [])) same (hold_same site r l (brief r ∷ []) (hold_brief site r was.hold.orderly back) same)

  no_brief : (short : Short) → IsShortOf site l short → 0 < length short.body → brief l ≢ []
  no_brief short is some = λ none.
      let empty : length short.body ≡ 0 = ap length (is.body_is ∙ ap spelling none) in
      omega (arith, some, empty)

  short_body : (short : Short) → IsShortOf site l short → 0 < length short.body → short.body ∷ [] ≡ bodies_in (brief l ∷ [])
  short_body short is some = one_body (brief l) short.body is.body_is (no_brief short is some)

  brief_length : length (joined (brief l ∷ [])) ≡ length (brief l)
  brief_length = ap length (append-nil (brief l))

  -- the log was turned
  pub turned_log : (n m : ℕ) (old new : LogState D) (short : Short) → IsLogged meaning site most l n old → IsShortOf site l short →
      0 < length short.body → ((bodies : List (List ℕ)) → Stands meaning bodies old → Stands meaning (short.body ∷ []) new) →
      new.generation ≡ old.generation + 1 → m ≡ short.count → IsLogged meaning site (most + 1) l m new
  turned_log n m old new short was is some turned next count = record {
    lists = brief l ∷ [];
    hold = brief_holds n old short was is;
    stands = subst (λ (bs : List (List ℕ)). Stands meaning bs new) (short_body short is some) (turned (bodies_in was.lists) was.stands);
    few = (let few : old.generation ≤ most = was.few in omega (arith, few, next));
    logged_is = count ∙ is.count_is ∙ ap counted (sym brief_length);
  }

  -- or it may have been
  pub left_turned : (n m : ℕ) (old new : LogState D) (short : Short) (more : List Record) (why : Why) → (was : IsLogged meaning site most l n old) →
      IsShortOf site l short → 0 < length short.body →
      EachReadsAs (meaning.meters old.disk).capacity old.generation (bodies_in was.lists) (old.generation + 1) (short.body ∷ []) (meaning.image new.disk) →
      (meaning.meters new.disk).capacity ≡ (meaning.meters old.disk).capacity → m ≡ max n short.count → (c : List ℕ) → meaning.image new.disk c →
      ReadsLeft site (meaning.meters new.disk).capacity (most + 1) l more m why c
  left_turned n m old new short more why was is some each same greater c at =
      subst (λ (k : ℕ). ReadsLeft site k (most + 1) l more m why c) (sym same) (by (each c at))
    where
      few : old.generation ≤ most
      few = was.few

      before : n ≡ counted (length (joined was.lists))
      before = was.logged_is

      after : short.count ≡ counted (length (brief l))
      after = is.count_is

      by : BytesReadAs (meaning.meters old.disk).capacity old.generation (bodies_in was.lists) c
          ⊎ BytesReadAs (meaning.meters old.disk).capacity (old.generation + 1) (short.body ∷ []) c →
          ReadsLeft site (meaning.meters old.disk).capacity (most + 1) l more m why c
      by (inl reads) = left_quiet site (meaning.meters old.disk).capacity (most + 1) m l more why c
          (record { lists = was.lists; hold = was.hold; generation = old.generation; few = omega (arith, few); reads = reads })
          (λ low. omega (arith, low, before, greater))
      by (inr reads) = left_quiet site (meaning.meters old.disk).capacity (most + 1) m l more why c
          (record {
            lists = brief l ∷ [];
            hold = brief_holds n old short was is;
            generation = old.generation + 1;
            few = omega (arith, few);
            reads = subst (λ (bs : List (List ℕ)). BytesReadAs (meaning.meters old.disk).capacity (old.generation + 1) bs c) (short_body short is some) reads;
          })
          (λ low. omega (arith, low, after, greater, brief_length))
