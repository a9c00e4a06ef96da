-- The text of a program.
use Rattle.std.specs.{Prelude.{ℕ, ◌*◌, List, [], ◌∷◌, ◌++◌, codes, decimal, replicate}, Fmt.signed_decimal, List.flat_map}
use Rattle.star_common.specs.Quotes.{quoted}
use Rattle.star_schema.specs.{Schema.column_name, Schema.table_name, Words.aggregate_name, Words.direction_name, Words.shape_name}
use Rattle.star_schema.specs.declared.group.{Aggregate.Aggregate as Aggregation, GroupColumn.GroupColumn, GroupColumn.TheVariants.Key, GroupColumn.TheVariants.Aggregate, SortKey.SortKey}
use Rattle.star_program.specs.{Text.Keywords.mnemonic_name, Text.Statements.{Line, lines_of_program}, declared.group.GroupDecl.GroupDecl, declared.group.GroupKey.GroupKey, declared.group.GroupKey.TheVariants.{Number, Text}, declared.op.Op.Op, declared.op.Operation.Operation, declared.program.Parts.Parts, declared.program.Show.Show, declared.spelling.keyword.Mnemonic.Mnemonic, declared.spelling.statement.Statement.Statement}
use Rattle.star_program.specs.declared.op.Op.TheVariants as op
use Rattle.star_program.specs.declared.op.Operation.TheVariants as operation
use Rattle.star_program.specs.declared.spelling.keyword.Mnemonic.TheVariants as mnemonic
use Rattle.star_program.specs.declared.spelling.statement.Statement.TheVariants as says

-- a register after a space
unfoldable pub register_text : ℕ → List ℕ
register_text r = codes " r" ++ decimal r

-- the start of an instruction that writes a register
unfoldable pub target_text : ℕ → Mnemonic → List ℕ
target_text t m = codes "r" ++ (decimal t ++ (codes " = " ++ mnemonic_name m))

-- an instruction that writes a register
unfoldable pub assigned_text : ℕ → Operation → List ℕ
assigned_text t (operation.Const n) = target_text t mnemonic.Const ++ (codes " " ++ signed_decimal n)
assigned_text t (operation.Edge e c text) = target_text t (mnemonic.Edge e) ++ (codes " " ++ (column_name c ++ (codes " " ++ quoted text)))
assigned_text t (operation.Load c row) = target_text t mnemonic.Load ++ (codes " " ++ (column_name c ++ register_text row))
assigned_text t (operation.Find table key) = target_text t mnemonic.Find ++ (codes " " ++ (table_name table ++ register_text key))
assigned_text t (operation.Binary o a b) = target_text t (mnemonic.Binary o) ++ (register_text a ++ register_text b)
assigned_text t (operation.Within x a b) = target_text t mnemonic.Within ++ (register_text x ++ (register_text a ++ register_text b))
assigned_text t (operation.Not f) = target_text t mnemonic.Not ++ register_text f
assigned_text t (operation.Read g a n) = target_text t mnemonic.Read ++ (codes " " ++ (decimal g ++ (codes " " ++ (decimal a ++ (codes " " ++ signed_decimal n)))))

unfoldable pub op_text : Op → List ℕ
op_text (op.Assign t o) = assigned_text t o
op_text (op.Keep f) = codes "keep" ++ register_text f
op_text (op.Put g keys values) = codes "put " ++ (decimal g ++ (flat_map register_text keys ++ (codes " :" ++ flat_map register_text values)))

unfoldable pub key_text : GroupKey → List ℕ
key_text Number = codes " number"
key_text (Text c) = codes " " ++ column_name c

abbrev pub aggregate_text : Aggregation → List ℕ
aggregate_text a = 32 ∷ aggregate_name a

unfoldable pub group_text : ℕ → GroupDecl → List ℕ
group_text index group =
    codes "group " ++ (decimal index ++ (codes " " ++ (shape_name group.shape
    ++ (flat_map key_text group.keys ++ (codes " :" ++ flat_map aggregate_text group.aggregates)))))

unfoldable pub written_column : GroupColumn → List ℕ
written_column (Key k) = codes " key " ++ decimal k
written_column (Aggregate a) = codes " aggregate " ++ decimal a

unfoldable pub show_text : Show → List ℕ
show_text show = codes "show " ++ (show.name ++ written_column show.column)

unfoldable pub sort_text : SortKey → List ℕ
sort_text key = codes "sort" ++ (written_column key.column ++ (codes " " ++ direction_name key.direction))

abbrev pub statement_text : Statement → List ℕ
statement_text says.Header = codes "star program 1"
statement_text (says.Registers n) = codes "registers " ++ decimal n
statement_text (says.Group index group) = group_text index group
statement_text (says.Act o) = op_text o
statement_text (says.Scan table t) = codes "scan " ++ (table_name table ++ register_text t)
statement_text says.End = codes "end"
statement_text (says.Report g) = codes "report " ++ decimal g
statement_text (says.Show show) = show_text show
statement_text (says.Sort key) = sort_text key

-- two spaces for each enclosing scan, the statement, and a line feed
unfoldable pub written_line : Line → List ℕ
written_line l = replicate (2 * l.depth) 32 ++ (statement_text l.says ++ 10 ∷ [])

-- the text of a program
unfoldable pub program_text : Parts → List ℕ
program_text p = flat_map written_line (lines_of_program p)
