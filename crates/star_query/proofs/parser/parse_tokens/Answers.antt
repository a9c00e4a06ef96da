use Rattle.star_query.{specs.Private.Reads.spot_of, proofs.Parsing.{tokens_derive, tokens_read, error_fault, error_no_tree}}
use Rattle.star_query.proofs.parser.parse_tokens.Goals as goal

pub returns-in-Ok-clause-found : goal.returns-in-Ok-clause-found
returns-in-Ok-clause-found c =
    tokens_derive c.args.tokens.now c.new.result (spot_of c.query-read.new.self) c.in-Ok.tree
    c.new.ensures c.in-Ok.ensures

pub returns-in-Ok-clause-only : goal.returns-in-Ok-clause-only
returns-in-Ok-clause-only c =
    λ t d. tokens_read c.args.tokens.now c.new.result (spot_of c.query-read.new.self) c.in-Ok.tree
    c.new.ensures c.in-Ok.ensures t d

pub returns-in-Err-clause-only : goal.returns-in-Err-clause-only
returns-in-Err-clause-only c =
    λ t d. rw c.fault_of.ensures
    (error_no_tree c.args.tokens.now c.query-read.new.self.rest.now c.new.result
    c.query-read.new.self.counts c.in-Err.error c.offset_at-at.result t c.new.ensures
    c.in-Err.ensures d)

pub returns-in-Err-clause-fault : goal.returns-in-Err-clause-fault
returns-in-Err-clause-fault c =
    rw c.fault_of.ensures (error_fault c.args.tokens.now c.query-read.new.self.rest.now c.new.result
    c.query-read.new.self.counts c.in-Err.error c.offset_at-at.result c.args.end
    c.count_passed-passed.result c.new.ensures c.in-Err.ensures c.count_passed-passed.ensures
    c.offset_at-at.ensures)
