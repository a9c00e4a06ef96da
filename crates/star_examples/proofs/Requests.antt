-- Which request the arguments of a command line make, at its limits, and what a request asks for.
use Rattle.std.{proofs.Common.{◌≡◌, [], ◌∷◌, Some, None, true, false, refl}, specs.Borrow.Bor, specs.Prelude.{List, ℕ, codes, map, option_map, replicate}}
use Rattle.star_common.proofs.Tables.{Gives}
use Rattle.star_schema.specs.declared.limits.Limits.{Limits}
use Rattle.star_words.specs.{Requests.{HasMostRows, IsRequest, Word, asked, bench, check, exec, explain, limit_of, may_ask_help, merge, names_folders, partial, query, quote, reports, request_asked, session, task_asked, trial}, declared.request.Merge.Merge, declared.request.Partials.Partials, declared.request.Reports.Reports, declared.request.Request.Request}
use Rattle.star_words.specs.declared.request.Request.TheVariants as request
use Rattle.star_words.specs.declared.request.Task.TheVariants as task

abbrev a : Word
a = codes "a"

abbrev b : Word
b = codes "b"

-- `c`, so many times, and a number
abbrev many : ℕ → List Word
many n = replicate n (codes "c")

abbrev seven : Word
seven = codes "7"

-- `merge`, and its option; each option is one command's; at most 1,000 files, parts or partials
requests : Gives asked (
    (codes "merge" ∷ a ∷ b ∷ a ∷ [], Some (merge a (b ∷ a ∷ []) false))
    ∷ (codes "merge" ∷ a ∷ b ∷ codes "--distinct" ∷ [], Some (merge a (b ∷ []) true))
    ∷ (codes "merge" ∷ a ∷ [], None)
    ∷ (codes "merge" ∷ a ∷ b ∷ a ∷ codes "--quote" ∷ [], None)
    ∷ (codes "reports" ∷ a ∷ b ∷ a ∷ codes "--distinct" ∷ [], None)
    ∷ (codes "trial" ∷ a ∷ b ∷ seven ∷ codes "--to" ∷ b ∷ [], None)
    ∷ (codes "merge" ∷ a ∷ many 1001, None)
    ∷ (codes "reports" ∷ a ∷ b ∷ many 1001, None)
    ∷ (codes "partial" ∷ codes "--to" ∷ a ∷ a ∷ b ∷ replicate 1001 seven, None) ∷ [])
    × Gives limit_of ((codes "1a", None) ∷ [])
    × Gives names_folders ((merge [] [] false, true) ∷ [])
    × Gives may_ask_help ((codes "check" ∷ a ∷ [], false) ∷ [])
unfolding limit_of
requests = (refl, refl, refl, refl)

module _ (folder file : Bor Word) (limits : Limits) where
  tasks : Gives task_asked ((task.Check folder, check folder.now)
      ∷ (task.Bench folder, bench folder.now) ∷ (task.Query folder file, query folder.now file.now)
      ∷ (task.Explain file, explain file.now) ∷ (task.Exec folder file, exec folder.now file.now)
      ∷ (task.Quote folder file, quote folder.now file.now)
      ∷ (task.Trial folder file limits, trial folder.now file.now limits.visits) ∷ [])
  tasks = refl

  others : (asks : Reports) (parts : Partials) (merges : Merge)
      → Gives request_asked ((request.Session folder, session folder.now)
      ∷ (
        request.Reports asks,
        reports asks.folder.now asks.target.now (map (λ it. it.now) asks.files.items) asks.is_quote,
      )
      ∷ (
        request.Partial parts,
        partial parts.folder.now parts.file.now parts.parts.items
            (option_map (λ it. it.now) parts.target),
      )
      ∷ (
        request.Merge merges,
        merge merges.file.now (map (λ it. it.now) merges.partials.items) merges.is_distinct,
      ) ∷ [])
  others asks parts merges = refl

made : (words : List Word) (r : Request) → IsRequest words r
    → (asked words ≡ Some (request_asked r)) × (names_folders (request_asked r) ≡ true)
    × HasMostRows r
made words r is = (is.asked_for, is.named, is.rows)
