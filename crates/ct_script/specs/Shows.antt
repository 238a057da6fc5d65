-- The reply that is shown.
use Rattle.ct_tree.specs.declared.call.Reply.{Reply}
use Rattle.ct_tree.specs.declared.call.Reply.TheVariants.{Done as done, Data as data_of, File as file, Dir as dir, At as at, Refused as refused, BadLine as bad_line}
use Rattle.ct_script.specs.declared.reply.Shown.{Shown}
use Rattle.ct_script.specs.declared.reply.Shown.TheVariants.{Done, Data, File, Dir, At, Refused, BadLine}

abbrev pub reply_of : Shown → Reply
reply_of Done = done
reply_of (Data bytes) = data_of bytes.now
reply_of (File size) = file size
reply_of (Dir count) = dir count
reply_of (At base level) = at base level
reply_of (Refused refusal) = refused refusal
reply_of BadLine = bad_line
