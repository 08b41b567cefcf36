use Rattle.feature_tests.proofs.headers.is_document_text.Goals as goal

pub text-line-requires : goal.text-line-requires
text-line-requires c = (c.args.text.now, rw c.in-Ok-Some.field-0-is at c.in-Ok-Some.ensures.object)
