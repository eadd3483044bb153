use Rattle.conversion.proofs.Serving.{loaded_blank, heads_blank, values_blank, normals_blank, answers_blank}
use Rattle.conversion.proofs.state.PoolReducer.with_limits.Goals as goal

pub returns-clause-serves : goal.returns-clause-serves
returns-clause-serves c = λ S. record {
  loaded = loaded_blank S _ _ c.in_ok-loaded.ensures;
  heads = heads_blank S _ _ c.in_ok-heads.ensures;
  values = values_blank S _ _ c.in_ok-values.ensures;
  normals = normals_blank S _ _ c.in_ok-normals.ensures;
  answers = answers_blank S _ _ c.in_ok-answers.ensures;
  trees = c.new-8.ensures S;
}
