use Rattle.conversion.proofs.Serving.{loaded_blank, heads_blank, values_blank, normals_blank, answers_blank}
use Rattle.conversion.proofs.state.PoolReducer.clear.Goals as goal

pub returns-clause-serves : goal.returns-clause-serves
returns-clause-serves c = λ S. record {
  loaded = loaded_blank S _ _ c.clear-2.ensures;
  heads = heads_blank S _ _ c.clear-3.ensures;
  values = values_blank S _ _ c.clear-4.ensures;
  normals = normals_blank S _ _ c.clear-5.ensures;
  answers = answers_blank S _ _ c.clear-6.ensures;
  trees = c.new-2.ensures S;
}
