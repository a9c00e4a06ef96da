-- A session that is under way, from its first statement to its end.
use Rattle.std.{proofs.Common.{◌≡◌, ◌++◌, ◌+◌, ◌-◌, ◌^◌, ◌<◌, ◌≤◌, ℕ, List, [], ◌∷◌, Bool, true, false, Option, arith, inl, inr, length, refl, subst, sym}, proofs.lemmas.List.length-append, specs.Prelude.Err}
use Rattle.star_engine.specs.{Answered.Change, Loads.Loaded}
use Rattle.star_statements.specs.{Sources.IsPastCounting, declared.sources.ReadFault.TheVariants.Failed as ReadFailed, declared.sources.ReadFault.TheVariants.OutOfMemory as ReadMemory}
use Rattle.star_statements.proofs.DraftLemmas.{consumed_both}
use Rattle.star_service.{specs.Sessions.{AreAllAnswered, AreAnswered, AreStatementsRun, IsStatementUnread, IsUnwritten}, specs.declared.sessions.Stop.Stop, specs.declared.sessions.Stop.TheVariants.{Unread, Unwritten}, specs.Private.Turns.{IsPrompted, IsStatementAnswered, IsTurn}, proofs.SessionLemmas.{all_answered, answered_more, none_answered}}

-- statements were answered, one after another, which have at least `many` bytes
pub record IsUnderWay {S E : Type 0} (loaded : Loaded) (is_terminal : Bool)
    (old new : Option (List ℕ))
    (out : Change S) (err : Change E) (many : ℕ) : Type 0 where
  pub statements : List (List ℕ)
  pub answered : AreAnswered loaded is_terminal old new statements out err
  pub bytes : many ≤ length answered.text

module _ {S E : Type 0} (loaded : Loaded) (is_terminal : Bool) where
  pub begins : (known : Option (List ℕ)) (out : Change S) (err : Change E) → out.new ≡ out.old
      → err.new ≡ err.old → IsUnderWay loaded is_terminal known known out err 0
  begins known out err untold unnoted = record {
    statements = [];
    answered = none_answered loaded is_terminal known out err untold unnoted;
    bytes = omega arith;
  }

  -- one turn more
  module _ (old mid new : Option (List ℕ)) (out : Change S) (err : Change E) (printed : S)
      (noted : E)
      (many : ℕ)
      (before : IsUnderWay loaded is_terminal old mid (record out { new = printed })
      (record err { new = noted }) many) where
    pub goes_on : IsStatementAnswered loaded is_terminal mid new (record out { old = printed })
        (record err { old = noted }) true true
        → IsUnderWay loaded is_terminal old new out err (many + 1)
    unfolding answered_more
    goes_on turn = record {
      statements = before.statements ++ turn.statement ∷ [];
      answered = answered_more loaded is_terminal old mid new before.statements turn.statement
          turn.kept
          out err printed noted before.answered turn.round turn.read;
      bytes =
          let some : 0 < length turn.statement = turn.read.some refl in
          let few : many ≤ length before.answered.text = before.bytes in
          omega (arith, some, few, length-append before.answered.text turn.statement);
    }

    pub comes_to_its_end : IsStatementAnswered loaded is_terminal mid new
        (record out { old = printed })
        (record err { old = noted }) false true
        → AreAllAnswered loaded is_terminal old new out err
    comes_to_its_end turn =
        all_answered loaded is_terminal old mid new before.statements turn.statement turn.kept out
        err
        printed noted before.answered turn.round turn.read

    broken : (is_ended : Bool)
        → IsStatementAnswered loaded is_terminal mid new (record out { old = printed })
        (record err { old = noted }) is_ended false → IsUnwritten loaded is_terminal old new out err
    broken is_ended turn = record {
      left = mid;
      statements = before.statements;
      printed = printed;
      noted = noted;
      before = before.answered;
      kept = turn.kept;
      is_ended = is_ended;
      statement = turn.statement;
      read = turn.read;
      round = turn.round;
    }

    unread : IsPrompted is_terminal (record out { old = printed }) (record err { old = noted })
        → IsStatementUnread loaded is_terminal old out err
    unread prompted = record {
      left = mid;
      statements = before.statements;
      noted = noted;
      before =
          subst (λ o. AreAnswered loaded is_terminal old mid before.statements
          (record out { new = o })
          (record err { new = noted })) (sym prompted.0) before.answered;
      is_prompted = is_terminal;
      prompt = prompted.1;
    }

    past : (read : List ℕ) → IsPastCounting mid new read
        → IsPastCounting old new (before.answered.text ++ read)
    past read is = record {
      consumed = consumed_both old mid new before.answered.text read before.answered.read
          is.consumed;
      many =
          let most : 2 ^ 64 - 1 ≤ length read = is.many in
          omega (arith, most, length-append before.answered.text read);
    }

    pub is_stopped : (failed : Bool) (stop : Stop)
        → IsTurn loaded is_terminal mid new failed (record out { old = printed })
        (record err { old = noted }) (Err stop)
        → AreStatementsRun loaded is_terminal old new failed out err (Err stop)
    is_stopped failed Unwritten (is_ended, turn) = broken is_ended turn
    is_stopped failed (Unread ReadFailed) (prompted, why) = (
      unread prompted,
      elim why [
        | inl has ↦ inl has
        | inr (read, is) ↦ inr
            (before.answered.text ++ read, past read is)
      ],
    )
    is_stopped failed (Unread ReadMemory) prompted = unread prompted

  -- more statements than are counted
  pub is_past : (old new : Option (List ℕ)) (failed : Bool) (out : Change S) (err : Change E)
      (many : ℕ) → 2 ^ 64 - 1 ≤ many → IsUnderWay loaded is_terminal old new out err many
      → AreStatementsRun loaded is_terminal old new failed out err (Err (Unread ReadFailed))
  is_past old new failed out err many most under_way = (
    record {
      left = new;
      statements = under_way.statements;
      noted = err.new;
      before = under_way.answered;
      is_prompted = false;
      prompt = inl (refl, refl);
    },
    inr (
      under_way.answered.text,
      record {
        consumed = under_way.answered.read;
        many = let few : many ≤ length under_way.answered.text = under_way.bytes in
            omega (arith, most, few);
      },
    ),
  )
