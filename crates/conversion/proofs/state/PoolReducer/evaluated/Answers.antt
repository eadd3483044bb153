-- An evaluation from its start, by trees that are taken out of the reducer meanwhile.
use Rattle.std.proofs.Common.{List, ap, refl, length, subst, sym as flip}
use Rattle.dk_model.specs.Signatures.{PlainSignature}
use Rattle.dk_model.specs.Trees.{Tree}
use Rattle.dk_model.specs.Units.{Units}
use Rattle.dk_model.specs.Evaluation.{whnf_of}
use Rattle.shared_term.specs.declared.id.TermId.{TermId}
use Rattle.shared_term.specs.Pools.{Node, term}
use Rattle.signature_log.specs.Versions.{entries_of}
use Rattle.conversion.specs.declared.pauses.Pause.{Pause}
use Rattle.conversion.specs.Machine.{AreWithin, behind, wound}
use Rattle.conversion.specs.Pausing.{ArePauses, Await}
use Rattle.conversion.specs.Trees.{AreTrees}
use Rattle.conversion.proofs.state.PoolReducer.evaluated.Goals as goal

pub complete-found-requires-clause-course : goal.complete-found-requires-clause-course
complete-found-requires-clause-course c =
    let S : PlainSignature = entries_of c.args.version.now in
    let ns : List Node = c.args.self.now.pool in
    let due : Units Tree = whnf_of S c.args.left.now (term ns c.args.whole) in
    record {
      comes = (
        due,
        (
          due,
          subst (λ (l : List Pause). Await S ns due l due) (flip c.new.ensures.items) refl,
          ap (λ (l : List TermId). whnf_of S c.args.left.now (wound (term ns c.args.whole) (behind ns l))) (flip c.new-2.ensures.items),
        ),
      );
      next = c.requires.whole;
      stack = subst (AreWithin (length ns)) (flip c.new-2.ensures.items) tt;
      pauses = subst (ArePauses S (length ns)) (flip c.new.ensures.items) tt;
    }

pub complete-found-requires-clause-trees : goal.complete-found-requires-clause-trees
complete-found-requires-clause-trees c =
    let S : PlainSignature = entries_of c.args.version.now in
    c.of.ensures S (subst (AreTrees S) (flip c.replace-kept.ensures.value) c.requires.serves.trees)

pub complete-found-requires-clause-serves : goal.complete-found-requires-clause-serves
complete-found-requires-clause-serves c =
    let S : PlainSignature = entries_of c.args.version.now in
    let s = c.requires.serves in
    record {
      loaded = s.loaded;
      heads = s.heads;
      values = s.values;
      normals = s.normals;
      answers = s.answers;
      trees = subst (AreTrees S) (flip c.replace-kept.ensures.after) (c.new-3.ensures S);
    }

pub returns-clause-serves : goal.returns-clause-serves
returns-clause-serves c =
    let S : PlainSignature = entries_of c.args.version.now in
    let s = c.complete-found.ensures.serves in
    let kept : AreTrees S c.replace-kept.result = subst (AreTrees S) (flip c.replace-kept.ensures.value) c.requires.serves.trees in
    record {
      loaded = s.loaded;
      heads = s.heads;
      values = s.values;
      normals = s.normals;
      answers = s.answers;
      trees = c.put_all.ensures S (subst (AreTrees S) (flip c.replace-compiled.ensures.after) kept) (subst (AreTrees S) (flip c.replace-compiled.ensures.value) s.trees);
    }
