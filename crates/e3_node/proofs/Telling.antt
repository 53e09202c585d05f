-- Records that are told and are a site's own can be read back.
use Rattle.std.proofs.Common.{◌≡◌, ◌∷◌, [], ℕ, true, List}
use Rattle.std.specs.Prelude.{OnOk, Result, Ok, Err}
use Rattle.std.specs.List.{AllByRecursion as Each}
use Rattle.e3_codec.specs.Fields.{AllCanBeReadBack, CanBeReadBack, HasSpelling, NumOpFits, OpFits, TxnFits, TxnNumbersFit}
use Rattle.e3_node.specs.Telling.{IsOfSite, IsTold, NumOpTold, OpTold}
use Rattle.e3_laws.specs.steps.Bounds.{IsHere}
use Rattle.e3_types.specs.Transactions.{is_txn}
use Rattle.e3_types.specs.declared.list.NoMemory.{NoMemory}
use Rattle.e3_types.specs.declared.records.Record.{Record}
use Rattle.e3_types.specs.declared.records.Record.TheVariants as log
use Rattle.e3_types.specs.declared.transactions.NumOp.{NumOp}
use Rattle.e3_types.specs.declared.transactions.Op.{Op}
use Rattle.e3_types.specs.declared.transactions.Op.TheVariants.{Read, Write}
use Rattle.e3_types.specs.declared.transactions.Txn.{Txn}
use Rattle.e3_world.specs.Logs.{key_of}

one_fits : (t : Txn) → TxnNumbersFit t → is_txn t ≡ true → TxnFits t
one_fits t numbers is = record { site = numbers.site; inc = numbers.inc; seq = numbers.seq; sites = numbers.sites; is_one = is }

op_fits : (site : ℕ) (op : Op) → OpTold op → (key_of op).site ≡ site → OpFits site op
op_fits site (Read key) told here = (here, told)
op_fits site (Write key val) told here = (here, told)

ops_fit : (site : ℕ) (ops : List NumOp) → Each NumOpTold ops → Each (IsHere site) ops → Each (NumOpFits site) ops
ops_fit site [] told here = tt
ops_fit site (o ∷ ops) told here = ((told.0.0, op_fits site o.op told.0.1 here.0), ops_fit site ops told.1 here.1)

fits_back : (site : ℕ) (r : Record) → IsTold r → IsOfSite site r → HasSpelling r → CanBeReadBack site r
fits_back site (log.Birth format own weights rows) told is some = (told.0, (told.1.0, ((some.0, told.1.1.0), (some.1, told.1.1.1))))
fits_back site (log.Inc inc) told is some = told
fits_back site (log.Vote t ops) told is some = (one_fits t told.0 is.0, (some, ops_fit site ops told.1 is.1))
fits_back site (log.Join t n) told is some = (one_fits t told.0 is, told.1)
fits_back site (log.Attempt t n dir) told is some = (one_fits t told.0 is, (told.1, tt))
fits_back site (log.Decision t dir) told is some = (one_fits t told is, tt)

pub all_back : (site : ℕ) (records : List Record) → Each IsTold records → Each HasSpelling records → Each (IsOfSite site) records → AllCanBeReadBack site records
all_back site [] told some is = tt
all_back site (r ∷ records) told some is = (fits_back site r told.0 is.0 some.0, all_back site records told.1 some.1 is.1)

pub spelled_back : (r : Result (List ℕ) NoMemory) (records : List Record) → Each IsTold records → OnOk r (Each HasSpelling records) →
    OnOk r ((site : ℕ) → Each (IsOfSite site) records → AllCanBeReadBack site records)
spelled_back (Ok bytes) records told some = λ site is. all_back site records told some is
spelled_back (Err none) records told some = tt
