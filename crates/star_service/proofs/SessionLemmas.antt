-- Rounds of a session, one after another.
use Rattle.std.proofs.Common.{◌≡◌, ◌∙◌, ◌++◌, ℕ, List, [], ◌∷◌, Bool, true, false, Option, append_assoc, ap, refl, subst, sym}
use Rattle.star_engine.specs.{Answered.Change, Loads.Loaded}
use Rattle.star_statements.{specs.Sources.IsStatementRead, specs.Statements.statements_of, proofs.DraftLemmas.{consumed_both, consumed_none}}
use Rattle.star_service.specs.Sessions.{AreAllAnswered, AreAnswered, AreRounds, IsRound}

module _ {S E : Type 0} (loaded : Loaded) (is_terminal : Bool) where
  pub rounds_more : (statements : List (List ℕ)) (statement : List ℕ) (out : Change S)
      (err : Change E)
      (printed : S) (noted : E)
      → AreRounds loaded is_terminal statements (record out { new = printed })
      (record err { new = noted })
      → IsRound loaded is_terminal statement (record out { old = printed })
      (record err { old = noted }) true
      → AreRounds loaded is_terminal (statements ++ statement ∷ []) out err
  rounds_more [] statement out err printed noted before round = (
    out.new,
    (
      err.new,
      (
        subst (λ e. IsRound loaded is_terminal statement out (record err { old = e }) true) before.1
            (subst (λ o. IsRound loaded is_terminal statement (record out { old = o })
            (record err { old = noted }) true)
            before.0 round),
        (refl, refl),
      ),
    ),
  )
  rounds_more (first ∷ others) statement out err printed noted (t, (n, (here, rest))) round = (
    t,
    (
      n,
      (
        here,
        rounds_more others statement (record out { old = t }) (record err { old = n }) printed noted
            rest round,
      ),
    ),
  )

  -- one statement more
  module _ (old mid new : Option (List ℕ)) (statements : List (List ℕ)) (statement kept : List ℕ)
      (out : Change S) (err : Change E) (printed : S) (noted : E)
      (before : AreAnswered loaded is_terminal old mid statements (record out { new = printed })
      (record err { new = noted }))
      (round : IsRound loaded is_terminal statement (record out { old = printed })
      (record err { old = noted }) true) where
    unfoldable pub answered_more : IsStatementRead mid new kept true statement
        → AreAnswered loaded is_terminal old new (statements ++ statement ∷ []) out err
    answered_more read = record {
      text = before.text ++ statement;
      read = consumed_both old mid new before.text statement before.read read.read;
      first = λ rest.
          ap statements_of (append_assoc before.text statement rest)
          ∙ before.first (statement ++ rest)
          ∙ ap (λ l. statements ++ l) (read.first refl rest)
          ∙ sym (append_assoc statements (statement ∷ []) (statements_of rest));
      rounds = rounds_more statements statement out err printed noted before.rounds round;
    }

    pub all_answered : IsStatementRead mid new kept false statement
        → AreAllAnswered loaded is_terminal old new out err
    all_answered read =
        let whole = before.first statement ∙ ap (λ l. statements ++ l) (read.last refl) in record {
          text = before.text ++ statement;
          read = consumed_both old mid new before.text statement before.read read.read;
          at_end = read.at_end refl;
          rounds = subst (λ l. AreRounds loaded is_terminal l out err) (sym whole)
              (rounds_more statements statement out err printed noted before.rounds round);
        }

  pub none_answered : (known : Option (List ℕ)) (out : Change S) (err : Change E)
      → out.new ≡ out.old
      → err.new ≡ err.old → AreAnswered loaded is_terminal known known [] out err
  none_answered known out err untold unnoted = record {
    text = [];
    read = consumed_none known;
    first = λ rest. refl;
    rounds = (untold, unnoted);
  }
