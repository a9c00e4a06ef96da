use Rattle.std.proofs.Common.{◌∙◌, Some, ap, inl, inr}
use Rattle.csv.specs.Reading.{names_headers, reader_config, reader_state, reader_trim, source_of}
use Rattle.star_reader.proofs.lines.leave_out_header.Goals as goal

pub returns-in-Ok-clause-left : goal.returns-in-Ok-clause-left
returns-in-Ok-clause-left c = λ lines named h.
    let same = rw c.in-Ok.is at c.set_byte_headers.ensures.same in
    let set = rw c.in-Ok.is at c.set_byte_headers.ensures.set in
    record {
      ready = inr (inl (ap names_headers same ∙ named, set));
      between = record {
        untrimmed = ap reader_trim same ∙ h.untrimmed;
        config = ap reader_config same ∙ h.config;
        between = ap reader_state same ∙ h.between;
        bytes = h.bytes;
        source = ap (source_of (λ s. Some s.now)) same ∙ h.source;
        left = h.left;
      };
    }
