-- The lines of a log's records, and of a table's rows. Before each line of a record stands a mark: none in a report.
use Rattle.std.specs.Prelude.{◌++◌, List, ℕ, codes, length}
use Rattle.std.specs.Fmt.{decimal}
use Rattle.std.specs.List.{flat_map}
use Rattle.e3_types.specs.declared.records.Record.{Record}
use Rattle.e3_types.specs.declared.records.Record.TheVariants as log
use Rattle.e3_types.specs.declared.transactions.Dir.{Dir}
use Rattle.e3_types.specs.declared.transactions.NumOp.{NumOp}
use Rattle.e3_types.specs.declared.transactions.Op.{Op}
use Rattle.e3_types.specs.declared.transactions.Op.TheVariants.{Read, Write}
use Rattle.e3_types.specs.declared.transactions.Row.{Row}
use Rattle.e3_types.specs.declared.transactions.Txn.{Txn}
use Rattle.e3_report.specs.lines.Texts.{line_end, commas, txn_text, dir_text}

-- a row of a table: `NAME VALUE`; an empty value leaves the space before it
unfoldable pub row_line : Row → List ℕ
row_line row = row.name ++ codes " " ++ row.val ++ line_end

-- a row of a birth: `row NAME VALUE`
unfoldable pub birth_row_line : List ℕ → Row → List ℕ
birth_row_line mark row = mark ++ codes "row " ++ row_line row

-- a birth: `birth FORMAT WEIGHTS`, and a line for each of its rows
unfoldable pub birth_lines : List ℕ → ℕ → List ℕ → List Row → List ℕ
birth_lines mark format weights rows =
    mark ++ codes "birth " ++ decimal format ++ codes " " ++ commas weights ++ line_end ++ flat_map (birth_row_line mark) rows

-- a read of a vote: `read N NAME`
unfoldable pub read_line : List ℕ → ℕ → List ℕ → List ℕ
read_line mark n name = mark ++ codes "read " ++ decimal n ++ codes " " ++ name ++ line_end

-- a write of a vote: `write N NAME VALUE`
unfoldable pub write_line : List ℕ → ℕ → List ℕ → List ℕ → List ℕ
write_line mark n name val =
    mark ++ codes "write " ++ decimal n ++ codes " " ++ name ++ codes " " ++ val ++ line_end

-- an operation of a vote; the site is the log's own
unfoldable pub op_line : List ℕ → NumOp → List ℕ
op_line mark o = by o.op
  where
    by : Op → List ℕ
    by (Read key) = read_line mark o.n key.name
    by (Write key val) = write_line mark o.n key.name val

-- a vote: `vote T COUNT`, and a line for each of its operations
unfoldable pub vote_lines : List ℕ → Txn → List NumOp → List ℕ
vote_lines mark t ops =
    mark ++ codes "vote " ++ txn_text t ++ codes " " ++ decimal (length ops) ++ line_end ++ flat_map (op_line mark) ops

-- an incarnation: `inc I`
unfoldable pub inc_line : List ℕ → ℕ → List ℕ
inc_line mark inc = mark ++ codes "inc " ++ decimal inc ++ line_end

-- a join: `join T N`
unfoldable pub join_line : List ℕ → Txn → ℕ → List ℕ
join_line mark t n = mark ++ codes "join " ++ txn_text t ++ codes " " ++ decimal n ++ line_end

-- an attempt: `attempt T N commit` or `attempt T N abort`
unfoldable pub attempt_line : List ℕ → Txn → ℕ → Dir → List ℕ
attempt_line mark t n dir =
    mark ++ codes "attempt " ++ txn_text t ++ codes " " ++ decimal n ++ codes " " ++ dir_text dir ++ line_end

-- a decision: `decision T commit` or `decision T abort`
unfoldable pub decision_line : List ℕ → Txn → Dir → List ℕ
decision_line mark t dir = mark ++ codes "decision " ++ txn_text t ++ codes " " ++ dir_text dir ++ line_end

-- the lines of a record
unfoldable pub record_lines : List ℕ → Record → List ℕ
record_lines mark (log.Birth format site weights rows) = birth_lines mark format weights rows
record_lines mark (log.Inc inc) = inc_line mark inc
record_lines mark (log.Vote t ops) = vote_lines mark t ops
record_lines mark (log.Join t n) = join_line mark t n
record_lines mark (log.Attempt t n dir) = attempt_line mark t n dir
record_lines mark (log.Decision t dir) = decision_line mark t dir
