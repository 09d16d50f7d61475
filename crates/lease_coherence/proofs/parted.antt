pub mod FilesStayUntouched
pub mod UntouchedFiles
