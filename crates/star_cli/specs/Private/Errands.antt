-- The files of reports.
use Rattle.std.specs.{Prelude.{◌≡◌, ℕ, List, Some}, Borrow.Bor, Path.path_file_stem}
use Rattle.star_engine.specs.{Questions.Asks, QuoteTexts.is_program_file, declared.question.Question.Question}
use Rattle.star_service.specs.declared.reports.ReportJob.{ReportJob}
use Rattle.star_cli.specs.{Stores.IsGivenFile, Stores.Known, declared.jobs.ReadFile.ReadFile}

-- a file was read, is a query or a program, and its report is named
pub record IsReadFrom (known : Known) (path : Bor (List ℕ)) (file : ReadFile) : Type 0 where
  pub bytes : IsGivenFile known path.now file.bytes.items
  pub asks : (question : Question)
      × Asks (is_program_file file.bytes.items) file.bytes.items question
  pub name : path_file_stem path.now ≡ Some file.name.now

-- its errand
pub record IsErrandFor (file : ReadFile) (job : ReportJob) : Type 0 where
  pub bytes : job.file.now ≡ file.bytes.items
  pub name : job.name.now ≡ file.name.now
