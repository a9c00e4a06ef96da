-- The rows and the names of a merged outcome.
use Rattle.std.{proofs.Common.{◌≡◌, ◌++◌, List, [], ◌∷◌, ap, arith, length, map, refl, subst, sym}, proofs.lemmas.List.Concat.flat_map-append, proofs.lemmas.List.Elements.All-tail, specs.List.flat_map, specs.Prelude.{Err, IfErr, Ok, Result}}
use Rattle.star_schema.specs.{declared.group.GroupColumn.GroupColumn, Groups.GroupRow, Tables.Value}
use Rattle.star_program.specs.declared.outcome.Cell.{Cell}
use Rattle.star_plan.specs.Meaning.{Plan}
use Rattle.star_query_meaning.specs.Answers.{shown_name}
use Rattle.star_compile_laws.specs.Compiled.{plan_show}
use Rattle.star_partial.specs.Contents.{Contents}
use Rattle.star_merger.specs.{Partials.contents_of, declared.partial.Partial.Partial, declared.fault.PartialsFault.PartialsFault, Private.Outcomes.{HasRoom, IsUnmerged, all_shown, groups_of}, Private.Shown.{IsUsable, rows_shown}}
use Rattle.star_merge.{specs.Cells.group_of, specs.Merged.AreSmall, proofs.Small.small_after}
use Rattle.star_engine.specs.declared.fault.EngineFault.TheVariants as engine
use Rattle.star_merger.specs.declared.fault.PartialFault.TheVariants as fault
use Rattle.star_merger.specs.declared.fault.PartialsFault.TheVariants as merging

pub names_shown : (p : Plan) (items : List GroupColumn)
    → map (λ show. show.name) (map (plan_show p) items) ≡ map (shown_name p) items
names_shown p [] = refl
names_shown p (item ∷ items) = ap (λ names. shown_name p item ∷ names) (names_shown p items)

pub mapped : {X Y Z : Type 0} (f : X → Y) (g : Y → List Z) (xs : List X)
    → flat_map (λ x. g (f x)) xs ≡ flat_map g (map f xs)
mapped f g [] = refl
mapped f g (x ∷ xs) = ap (λ zs. g (f x) ++ zs) (mapped f g xs)

abbrev groups_in : Plan → List (List Cell) → List (GroupRow Value)
groups_in p rows = map (group_of (length p.keys)) rows

-- if partials have room, fewer have it too
room_rest : (p : Plan) (contents : Contents) (all : List Contents) → HasRoom p (contents ∷ all)
    → HasRoom p all
room_rest p contents all room = record {
  lookups = omega (arith, room.lookups);
  updates = omega (arith, room.updates);
  totals = small_after (flat_map (groups_in p) (rows_shown contents.run)) (groups_of p all)
      (subst AreSmall (flat_map-append (groups_in p) (rows_shown contents.run) (all_shown all))
      room.totals);
}

-- why partials are not merged, neither are more
pub unmerged_rest : (p : Plan) (contents : Contents) (all : List Contents) (fault : PartialsFault)
    → IsUnmerged p all fault → IsUnmerged p (contents ∷ all) fault
unmerged_rest p contents all (merging.Engine engine.OutOfMemory) is = tt
unmerged_rest p contents all (merging.Engine _) is = absurd is
unmerged_rest p contents all (merging.Partial index (fault.Refused line) other) is =
    λ usable. is (All-tail IsUsable contents all usable)
unmerged_rest p contents all (merging.Partial index (fault.Overflow line) other) is =
    λ room. is (room_rest p contents all room)
unmerged_rest p contents all (merging.Partial index _ other) is = absurd is

pub failed_rest : {A : Type 0} (p : Plan) (partials rest : List Partial) (first : Partial)
    (result : Result A PartialsFault) → partials ≡ first ∷ rest
    → IfErr result (IsUnmerged p (map contents_of rest))
    → IfErr result (IsUnmerged p (map contents_of partials))
failed_rest p partials rest first (Ok value) same is = is
failed_rest p partials rest first (Err fault) same is =
    subst (λ partials. IsUnmerged p (map contents_of partials) fault) (sym same)
    (unmerged_rest p (contents_of first) (map contents_of rest) fault is)
